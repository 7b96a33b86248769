-- Laws of refusals: lists of tests, and the sizes.
use Rattle.std.proofs.Common.{leb-true, ◌≡◌, refl, true, List, [], ◌∷◌, ◌++◌, ℕ, ◌*◌, ◌≤◌, leb, Ok, Err, min, max, ◌&&◌, arith, le-leb, leb-false}
use borrow.Author.Tests.{lt-leb}
use Rattle.words.specs.Words.{between}
use Rattle.words.proofs.Laws.{true_or_false, and_left, and_right}
use Rattle.screen.proofs.CellLaws.{cells_few}
use Rattle.rules.specs.declared.Refusal.{Refusal}
use Rattle.rules.specs.Session.{sizes_ok}
use Rattle.rules.specs.Refusal.{Test, verdict}

-- ---- some tests, and then others

-- the others decide where the first are passed
pub passed_on : (ts us : List Test) → verdict ts ≡ Ok tt → verdict (ts ++ us) ≡ verdict us
unfolding verdict
passed_on [] us e = refl
passed_on (t ∷ ts) us e = true_or_false t.passes (λ p. rw p (passed_on ts us (rw p at e))) (λ p. absurd (let q = rw p at e in cc))

-- where one of the first fails, it decides
pub failed_first : (ts us : List Test) {r : Refusal} → verdict ts ≡ Err r → verdict (ts ++ us) ≡ Err r
unfolding verdict
failed_first [] us e = cc
failed_first (t ∷ ts) us e = true_or_false t.passes (λ p. rw p (failed_first ts us (rw p at e))) (λ p. rw p (rw p at e))

-- ---- the tests

-- the sizes have their bounds
pub bounds : (m n : ℕ) → sizes_ok m n ≡ true → (m ≤ 132) × (n ≤ 64)
bounds m n e =
    let wide = and_right (leb 1 m) (leb m 132) (and_left (between 1 132 m) (between 1 64 n) e) in
    let high = and_right (leb 1 n) (leb n 64) (and_right (between 1 132 m) (between 1 64 n) e) in
    (leb-true m 132 wide, leb-true n 64 high)

-- and the screen has few cells
pub few : (m n : ℕ) → sizes_ok m n ≡ true → n * m ≤ 8448
few m n e = let b = bounds m n e in cells_few b.0 b.1

-- ---- the least and the greatest of two, against a bound

pub least_above : (n a b : ℕ) → leb n (min a b) ≡ (leb n b && leb n a)
least_above n a b =
    true_or_false (leb n b)
    (λ p. true_or_false (leb n a)
    (λ q. rw (p, q) (le-leb n (min a b) (omega (arith, leb-true n b p, leb-true n a q))))
    (λ q. rw (p, q) (lt-leb n (min a b) (omega (arith, leb-false n a q)))))
    (λ p. rw p (lt-leb n (min a b) (omega (arith, leb-false n b p))))

pub greatest_below : (n a b : ℕ) → leb (max a b) n ≡ (leb b n && leb a n)
greatest_below n a b =
    true_or_false (leb b n)
    (λ p. true_or_false (leb a n)
    (λ q. rw (p, q) (le-leb (max a b) n (omega (arith, leb-true b n p, leb-true a n q))))
    (λ q. rw (p, q) (lt-leb (max a b) n (omega (arith, leb-false a n q)))))
    (λ p. rw p (lt-leb (max a b) n (omega (arith, leb-false b n p))))

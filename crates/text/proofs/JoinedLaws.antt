-- Laws of data in which an LF is passed over: one byte more, and whether a CR came last.
use Rattle.std.proofs.Common.{◌≡◌, refl, sym, ap, ◌∙◌, Bool, true, false, ◌&&◌, List, [], ◌∷◌, ◌++◌, ℕ, suc, ◌-◌, ◌<◌, arith, ne_eqb, eqb, length, get_or, take, take-suc, take_all, if◌then◌else◌}
use Rattle.words.proofs.Laws.{true_or_false, not_both}
use Rattle.rules.specs.Session.{printable}
use Rattle.text.specs.Text.{joined, obeyed_bytes, ends_in_cr}
use Rattle.text.specs.Inner.Text.{passed_at}

-- one byte after the others
ends_next : (cr : Bool) (xs : List ℕ) (b : ℕ) → ends_in_cr cr (xs ++ (b ∷ [])) ≡ eqb b 13
unfolding ends_in_cr
ends_next cr [] b = refl
ends_next cr (x ∷ xs) b = ends_next (eqb x 13) xs b

joined_next : (cr : Bool) (xs : List ℕ) (b : ℕ)
    → joined cr (xs ++ (b ∷ [])) ≡ joined cr xs ++ (if ends_in_cr cr xs && eqb b 10 then [] else b ∷ [])
unfolding joined ends_in_cr
joined_next cr [] b = refl
joined_next cr (x ∷ xs) b =
    true_or_false (cr && eqb x 10) (λ t. rw t (joined_next (eqb x 13) xs b))
    (λ f. rw f (ap (λ l. x ∷ l) (joined_next (eqb x 13) xs b)))

pub obeyed_next : (joins cr : Bool) (xs : List ℕ) (b : ℕ) → obeyed_bytes joins cr (xs ++ (b ∷ []))
    ≡ obeyed_bytes joins cr xs ++ (if (joins && ends_in_cr cr xs) && eqb b 10 then [] else b ∷ [])
obeyed_next true cr xs b = joined_next cr xs b
obeyed_next false cr xs b = refl

pub obeyed_none : (joins cr : Bool) → obeyed_bytes joins cr [] ≡ []
unfolding joined
obeyed_none true cr = refl
obeyed_none false cr = refl

-- only an LF is passed over
pub not_passed : (joins cr : Bool) (bytes : List ℕ) (at : ℕ) → eqb (get_or bytes at 0) 10 ≡ false → passed_at joins cr bytes at ≡ false
not_passed joins cr bytes at e = rw e (true_or_false (joins && ends_in_cr cr (take at bytes)) (λ t. rw t) (λ t. rw t))

pub printed_no_lf : (b : ℕ) → printable b ≡ true → eqb b 10 ≡ false
printed_no_lf b p = ne_eqb b 10 (λ e. not_both (printable 10) (rw e at p) refl)

-- ---- whether a CR came last

pub ends_none : (cr : Bool) (xs : List ℕ) → length xs ≡ 0 → ends_in_cr cr xs ≡ cr
unfolding ends_in_cr
ends_none cr [] e = refl
ends_none cr (x ∷ xs) e = absurd (omega arith)

pub ends_last : (cr : Bool) (xs : List ℕ) → 0 < length xs → ends_in_cr cr xs ≡ eqb (get_or xs (length xs - 1) 0) 13
ends_last cr xs h =
    let n = length xs - 1 in
    let e : suc n ≡ length xs = omega arith in
    let whole : take n xs ++ (get_or xs n 0 ∷ []) ≡ xs =
    sym (take-suc xs n 0 (omega arith)) ∙ ap (λ k. take k xs) e ∙ take_all (length xs) xs (omega arith) in
    ap (ends_in_cr cr) (sym whole) ∙ ends_next cr (take n xs) (get_or xs n 0)

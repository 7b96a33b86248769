-- Laws of the bytes before the first IAC: of a list's first bytes, and of what comes after them.
use Rattle.std.proofs.Common.{ℕ, zero, suc, ◌+◌, ◌≤◌, ◌<◌, add-one, arith, ◌≡◌, refl, ap, Bool, true, false, not, cond, ◌&&◌, List, [], ◌∷◌, eqb, length, take, drop, get_or, eqb-true, if◌then◌else◌}
use Rattle.std.specs.List.{prefix_len}
use borrow.Author.Tests.{not-true, eqb-false}
use Rattle.telnet.specs.Reader.{iac}
use Rattle.telnet.specs.Stream.{before_iac}
use Rattle.telnet.proofs.Laws.{No255}

-- n bytes stand before the first IAC: none of them is IAC, and IAC is next, if any byte is.
pub record Before (bs : List ℕ) (n : ℕ) : Type 0 where
  pub within : n ≤ length bs
  pub plain : No255 (take n bs)
  pub next : n < length bs → get_or bs n 0 ≡ iac

pub before : (bs : List ℕ) → Before bs (before_iac bs)
unfolding before_iac
before [] = record { within = omega arith; plain = λ k h. absurd (omega arith); next = λ h. absurd (omega arith) }
before (b ∷ bs) = go (eqb b iac) refl (before bs)
  where
    go : (t : Bool) → eqb b iac ≡ t → Before bs (before_iac bs) → Before (b ∷ bs) (if t then 0 else suc (before_iac bs))
    go true e r = record { within = omega arith; plain = λ k h. absurd (omega arith); next = λ h. eqb-true b iac e }
    go false e r = record { within = omega (arith, r.within); plain = plain; next = λ h. r.next (omega arith) }
      where
        plain : No255 (b ∷ take (before_iac bs) bs)
        plain zero h = eqb-false b iac e
        plain (suc k) h = r.plain k (omega arith)

pub before_within : (bs : List ℕ) → before_iac bs ≤ length bs
before_within bs = (before bs).within

-- the first n have none: what comes after them tells
pub before_past : (n : ℕ) (bs : List ℕ) → n ≤ length bs → n ≤ before_iac (take n bs) → before_iac bs ≡ n + before_iac (drop n bs)
unfolding before_iac
before_past zero bs h e = omega arith
before_past (suc n) [] h e = absurd (omega arith)
before_past (suc n) (b ∷ bs) h e = go (eqb b iac) (before_past n bs (omega arith)) e
  where
    go : (t : Bool) → (n ≤ before_iac (take n bs) → before_iac bs ≡ n + before_iac (drop n bs)) →
        suc n ≤ (if t then 0 else suc (before_iac (take n bs))) → (if t then 0 else suc (before_iac bs)) ≡ suc n + before_iac (drop n bs)
    go true r q = absurd (omega arith)
    go false r q = let k = r (omega arith) in omega arith

-- the first n have one: it is the first of all
pub before_hit : (n : ℕ) (bs : List ℕ) → n ≤ length bs → before_iac (take n bs) < n → before_iac bs ≡ before_iac (take n bs)
unfolding before_iac
before_hit zero bs h e = absurd (omega arith)
before_hit (suc n) [] h e = absurd (omega arith)
before_hit (suc n) (b ∷ bs) h e = go (eqb b iac) (before_hit n bs (omega arith)) e
  where
    go : (t : Bool) → (before_iac (take n bs) < n → before_iac bs ≡ before_iac (take n bs)) →
        (if t then 0 else suc (before_iac (take n bs))) < suc n →
        (if t then 0 else suc (before_iac bs)) ≡ (if t then 0 else suc (before_iac (take n bs)))
    go true r q = refl
    go false r q = ap suc (r (omega arith))

-- as the library counts
pub before_prefix : (bs : List ℕ) → before_iac bs ≡ prefix_len (λ b. not (eqb b iac)) bs
unfolding before_iac
before_prefix [] = refl
before_prefix (b ∷ bs) = go (eqb b iac) (before_prefix bs)
  where
    go : (t : Bool) → before_iac bs ≡ prefix_len (λ b. not (eqb b iac)) bs →
        (if t then 0 else suc (before_iac bs)) ≡ cond (not t) (1 + prefix_len (λ b. not (eqb b iac)) bs) 0
    go true e = refl
    go false e = omega arith

-- one byte more
before_next : (bs : List ℕ) (i : ℕ) → i < length bs → before_iac (take i bs) ≡ i → eqb (get_or bs i 0) iac ≡ false →
    before_iac (take (suc i) bs) ≡ suc i
unfolding before_iac
before_next [] i h e n = absurd (omega arith)
before_next (b ∷ bs) zero h e n = rw n
before_next (b ∷ bs) (suc i) h e n = go (eqb b iac) (λ q. before_next bs i (omega arith) q n) e
  where
    go : (t : Bool) → (before_iac (take i bs) ≡ i → before_iac (take (suc i) bs) ≡ suc i) →
        (if t then 0 else suc (before_iac (take i bs))) ≡ suc i → (if t then 0 else suc (before_iac (take (suc i) bs))) ≡ suc (suc i)
    go true r q = absurd (omega arith)
    go false r q = ap suc (r (omega arith))

-- for a loop over a slice: none so far, and none here
pub before_more : (bs : List ℕ) (i : ℕ) (all : Bool) → i < length bs → (all ≡ true → before_iac (take i bs) ≡ i)
    → (all && not (eqb (get_or bs i 0) iac)) ≡ true → before_iac (take (i + 1) bs) ≡ i + 1
before_more bs i true h b e = rw add-one (before_next bs i h (b refl) (not-true _ e))
before_more bs i false h b e = let z : ◌≡◌ {A = ℕ} 0 1 = cc in absurd (omega arith)

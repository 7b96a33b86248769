-- Laws of `if` and of tests, and of lists given by their elements.
use Rattle.std.proofs.Common.{◌≡◌, refl, sym, ap, ◌∙◌, Bool, true, false, ◌&&◌, List, [], ◌∷◌, ℕ, zero, suc, ◌+◌, ◌≤◌, ◌<◌, add-zero, zero-add, add-suc, suc-add, le_of_suc-le-suc, not-suc-le-zero, arith, ltb-true, ltb-false, le-leb, leb, ltb, length, get_or, ext_get_or, if◌then◌else◌}
use borrow.Author.Tests.{lt-leb}
use Rattle.words.specs.Words.{between, tabulate}

-- ---- choices and tests

-- a fact about a choice, from its two arms
pub either {ℓ} : {A : Type 0} (P : A → Type ℓ) (b : Bool) {x y : A} → (b ≡ true → P x) → (b ≡ false → P y) → P (if b then x else y)
either P true f g = f refl
either P false f g = g refl

pub true_or_false {ℓ} : {A : Type ℓ} (b : Bool) → (b ≡ true → A) → (b ≡ false → A) → A
true_or_false true f g = f refl
true_or_false false f g = g refl

-- a comparison's two cases
pub less_or_not {ℓ} : {A : Type ℓ} (a b : ℕ) → (a < b → A) → (b ≤ a → A) → A
less_or_not a b f g = true_or_false (ltb a b) (λ t. f (ltb-true a b t)) (λ t. g (ltb-false a b t))

pub not_both {ℓ} : {A : Type ℓ} (b : Bool) → b ≡ true → b ≡ false → A
not_both b p q = let z : ◌≡◌ {A = ℕ} 0 1 = cc in absurd (omega arith)

pub and_left : (a b : Bool) → (a && b) ≡ true → a ≡ true
and_left true b e = refl
and_left false b e = e

pub and_right : (a b : Bool) → (a && b) ≡ true → b ≡ true
and_right true b e = e
and_right false b e = cc

pub both : (a b : Bool) → a ≡ true → b ≡ true → (a && b) ≡ true
both a b p q = rw (p, q)

pub and_true : (a : Bool) → (a && true) ≡ a
and_true true = refl
and_true false = refl

pub and_off : (a : Bool) → (a && false) ≡ false
and_off true = refl
and_off false = refl

pub and_false : (a b : Bool) → b ≡ false → (a && b) ≡ false
and_false true b e = e
and_false false b e = refl

-- a number in a range, below it, above it
module _ (lo hi n : ℕ) where
  pub in_between : lo ≤ n → n ≤ hi → between lo hi n ≡ true
  in_between a b = rw (le-leb lo n a, le-leb n hi b)

  pub below_between : n < lo → between lo hi n ≡ false
  below_between h = rw (lt-leb lo n h)

  pub above_between : hi < n → between lo hi n ≡ false
  above_between h = and_false (leb lo n) (leb n hi) (lt-leb n hi h)

-- ---- a list by its elements

-- what stands within a list does not depend on the value for what lies beyond it
pub get_d-within : (xs : List ℕ) (i d e : ℕ) → i < length xs → get_or xs i d ≡ get_or xs i e
get_d-within [] i d e h = absurd (not-suc-le-zero h)
get_d-within (x ∷ xs) zero d e h = refl
get_d-within (x ∷ xs) (suc i) d e h = get_d-within xs i d e (le_of_suc-le-suc h)

module _ (f : ℕ → ℕ) where
  pub tabulate_length : (i n : ℕ) → length (tabulate f i n) ≡ n
  unfolding tabulate
  tabulate_length i zero = refl
  tabulate_length i (suc n) = ap suc (tabulate_length (suc i) n)

  get_d-from : (i n k d : ℕ) → k < n → get_or (tabulate f i n) k d ≡ f (i + k)
  unfolding tabulate
  get_d-from i zero k d h = absurd (not-suc-le-zero h)
  get_d-from i (suc n) zero d h = rw add-zero
  get_d-from i (suc n) (suc k) d h = get_d-from (suc i) n k d (le_of_suc-le-suc h) ∙ ap f (suc-add i k ∙ sym (add-suc i k))

  pub get_d_tabulate : (n k d : ℕ) → k < n → get_or (tabulate f 0 n) k d ≡ f k
  get_d_tabulate n k d h = get_d-from 0 n k d h ∙ ap f (zero-add k)

  -- a list of n elements whose element k is f k
  pub tabulated : (xs : List ℕ) (n d : ℕ) → length xs ≡ n → ((k : ℕ) → k < n → get_or xs k d ≡ f k) → xs ≡ tabulate f 0 n
  tabulated xs n d e h =
      ext_get_or d xs (tabulate f 0 n) (e ∙ sym (tabulate_length 0 n))
      (λ k q. h k (omega arith) ∙ sym (get_d_tabulate n k d (omega arith)))

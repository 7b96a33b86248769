-- Titled cases: what is found and what is to be found, and that all of them pass.
use Rattle.std.proofs.Common.{◌≡◌, refl, ap₂, Bool, true, false, ◌&&◌, List, [], ◌∷◌, map, ℕ, eqb-true, eqb}
use Prim.Native.String.{String}
use Rattle.words.specs.Words.{ByTest}
use Rattle.words.proofs.Laws.{true_or_false, not_both, and_left, and_right}

pub record Case : Type 0 where
  pub title : String
  pub found : List ℕ
  pub expected : List ℕ

abbrev pub case : String → List ℕ → List ℕ → Case
case title found expected = record { title = title; found = found; expected = expected }

abbrev same : List ℕ → List ℕ → Bool
same [] [] = true
same [] (y ∷ ys) = false
same (x ∷ xs) [] = false
same (x ∷ xs) (y ∷ ys) = eqb x y && same xs ys

-- no proof of this can be given, and the checker says for which title it wants one
pub data Fails (title : String) : Type 0 where

-- the first case that fails is named
abbrev pub Pass : List Case → Type 0
Pass [] = Unit {0}
Pass (c ∷ cs) = ByTest (same c.found c.expected) (Pass cs) (Fails c.title)

fails_not : {A : Type 0} {title : String} → Fails title → A
fails_not = elim [ ]

same_equal : (xs ys : List ℕ) → same xs ys ≡ true → xs ≡ ys
same_equal [] [] e = refl
same_equal [] (y ∷ ys) e = not_both false e refl
same_equal (x ∷ xs) [] e = not_both false e refl
same_equal (x ∷ xs) (y ∷ ys) e =
    ap₂ ◌∷◌ (eqb-true x y (and_left (eqb x y) (same xs ys) e)) (same_equal xs ys (and_right (eqb x y) (same xs ys) e))

pub each_equal : (cs : List Case) → Pass cs → map (λ (c : Case). c.found) cs ≡ map (λ (c : Case). c.expected) cs
each_equal [] p = refl
each_equal (c ∷ cs) p =
    true_or_false (same c.found c.expected)
    (λ e. ap₂ ◌∷◌ (same_equal c.found c.expected e) (each_equal cs (rw e at p)))
    (λ e. let q : Fails c.title = rw e at p in fails_not q)

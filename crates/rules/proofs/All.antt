-- A fact of every element of a list.
use Rattle.std.proofs.Common.{◌≡◌, ap, List, [], ◌∷◌, ◌++◌, map}
-- the worked cases and the sentences over all values are checked first, so that a wrong rule is refused there
use Rattle.rules.proofs.Every.{every_option}

module _ {A : Type 0} (P : A → Type 0) where
  abbrev pub All : List A → Type 0
  All [] = Unit {0}
  All (x ∷ xs) = P x × All xs

  pub all_append : (xs ys : List A) → All xs → All ys → All (xs ++ ys)
  all_append [] ys p q = q
  all_append (x ∷ xs) ys p q = (p.0, all_append xs ys p.1 q)

-- of the first, and of all the rest
infixr 2 ◌and◌
abbrev pub ◌and◌ : {A B : Type 0} → A → B → A × B
◌and◌ first rest = (first, rest)

head : {A : Type 0} → A → List A → A
head d [] = d
head d (x ∷ xs) = x

tail : {A : Type 0} → List A → List A
tail [] = []
tail (x ∷ xs) = xs

-- two functions with the same values on a list
pub all_equal : {A B : Type 0} (f g : A → B) (xs : List A) → map f xs ≡ map g xs → All (λ x. f x ≡ g x) xs
unfolding head tail
all_equal f g [] e = tt
all_equal f g (x ∷ xs) e = (ap (head (f x)) e, all_equal f g xs (ap tail e))

-- Tests on numbers and their bits, and a list given by its elements.
use Rattle.std.specs.Prelude.{Bool, true, false, not, ◌&&◌, List, [], ◌∷◌, ℕ, zero, suc, ◌/◌, ◌%◌, eqb, leb}

-- one of two facts, by a test
abbrev pub ByTest : Bool → Type 0 → Type 0 → Type 0
ByTest true P Q = P
ByTest false P Q = Q

-- from lo to hi, both included
abbrev pub between : ℕ → ℕ → ℕ → Bool
between lo hi n = leb lo n && leb n hi

-- the bit of this weight (1, 2, 4 ..) is set in the number; the weight 0 is no bit
unfoldable pub bit : ℕ → ℕ → Bool
bit weight n = not (eqb weight 0) && eqb (n / weight % 2) 1

-- f i, f (i + 1), ..., n of them
unfoldable pub tabulate : (ℕ → ℕ) → ℕ → ℕ → List ℕ
tabulate f i zero = []
tabulate f i (suc n) = f i ∷ tabulate f (suc i) n

-- Document 01, "Cells, fields and guards": the attribute byte, protection, guards.
use Rattle.std.specs.Prelude.{Bool, not, ◌&&◌, List, ℕ, ◌/◌, ◌%◌, eqb, get_or}
use Rattle.screen.specs.declared.protection.Protection.{Protection}
use Rattle.screen.specs.declared.protection.Protection.TheVariants.{Unprotected, Protected, Alphabetic, Numeric}

-- The document's term "protection": bits 4 and 3 of the attribute byte. 0 none, 1 protected, 2 alphabetic, 3 numeric.
abbrev pub protection : ℕ → ℕ
protection attr = attr / 8 % 4

-- the same by name
abbrev pub protection_number : Protection → ℕ
protection_number Unprotected = 0
protection_number Protected = 1
protection_number Alphabetic = 2
protection_number Numeric = 3

-- The attribute byte of a cell. A cell that has none counts as protected ("How much each contract must say").
abbrev pub attribute_at : List ℕ → ℕ → ℕ
attribute_at attrs i = get_or attrs i 8

-- the document's term "protected"
unfoldable pub protected_at : List ℕ → ℕ → Bool
protected_at attrs i = eqb (protection (attribute_at attrs i)) 1

-- the document's term "guarded": protected while protection is not suppressed
abbrev pub guarded_at : Bool → List ℕ → ℕ → Bool
guarded_at suppressed attrs i = not suppressed && protected_at attrs i

-- Cells that a scan goes past without a look at each.
use Rattle.std.specs.Prelude.{◌≡◌, Bool, true, false, not, ◌&&◌, ◌||◌, List, ℕ, ◌+◌, ◌≤◌, ◌<◌, eqb, length}
use Rattle.screen.specs.Cells.{cell_of}
use Rattle.screen.specs.Attributes.{protection}
use Rattle.screen.specs.Scans.{is_target}
use Rattle.screen.specs.declared.cell.Place.{Place}
use Rattle.screen.specs.declared.scan.Target.{Target}
use Rattle.screen.specs.declared.scan.Target.TheVariants.{FieldStart, UnprotectedStart, Open}

-- none from `from` up to `end` is what is looked for
pub record NoneIn (attrs : List ℕ) (target : Target) (from end : ℕ) : Type 0 where
  pub none : (i : ℕ) → from ≤ i → i < end → is_target attrs target i ≡ false

-- is no protected cell such a cell?
unfoldable pub passes_protected : Target → Bool
passes_protected FieldStart = false
passes_protected UnprotectedStart = true
passes_protected (Open suppressed) = not suppressed

-- is no cell such a cell that has the attribute byte of the one before?
unfoldable pub passes_alike : Target → Bool
passes_alike FieldStart = true
passes_alike UnprotectedStart = true
passes_alike (Open suppressed) = false

-- what both say of a cell, by the attribute byte before it and its own
abbrev pub passed : Bool → Bool → ℕ → ℕ → Bool
passed protected alike before here = (protected && eqb (protection here) 1) || (alike && eqb before here)

-- r is a place after p's, all between them are guarded, and it lies past the last line where no cell is left
pub record PastGuarded (suppressed : Bool) (attrs : List ℕ) (width height : ℕ) (p r : Place) : Type 0 where
  pub column : r.x.0 < width
  pub line : r.y.0 ≤ height
  pub after : cell_of width p + 1 ≤ cell_of width r
  pub within : cell_of width r ≤ length attrs
  pub guarded : NoneIn attrs (Open suppressed) (cell_of width p + 1) (cell_of width r)

-- Document 01, "Cells, fields and guards": where fields start and end, and the edit span.
use Rattle.std.specs.Prelude.{◌≡◌, Bool, true, not, ◌&&◌, List, ℕ, zero, suc, ◌+◌, ◌-◌, ◌≤◌, ◌<◌, min, eqb, length, if◌then◌else◌}
use Rattle.screen.specs.Words.{first_of, last_of}
use Rattle.screen.specs.Attributes.{attribute_at, protected_at}

-- A run: cells in reading order with equal attribute bytes. `end` is the cell after its last.
pub record Run (attrs : List ℕ) (start end : ℕ) : Type 0 where
  pub some : start < end
  pub within : end ≤ length attrs
  pub equal : (i : ℕ) → start ≤ i → i < end → attribute_at attrs i ≡ attribute_at attrs start

-- The document's term "field": a longest run, one that no other run holds. Lines do not matter.
pub record Field (attrs : List ℕ) (start end : ℕ) : Type 0 where
  pub run : Run attrs start end
  pub longest : (s e : ℕ) → Run attrs s e → s ≤ start → end ≤ e → (s ≡ start) × (e ≡ end)

-- The scans below give exactly these fields: `field_is` and `field_only` in proofs/FieldLaws.antt.

-- a field starts at the first cell, and at each cell whose attribute byte is not that of the cell before
unfoldable pub starts_at : List ℕ → ℕ → Bool
starts_at attrs zero = true
starts_at attrs (suc i) = not (eqb (attribute_at attrs i) (attribute_at attrs (suc i)))

-- an unprotected field starts
unfoldable pub opens_at : List ℕ → ℕ → Bool
opens_at attrs i = starts_at attrs i && not (protected_at attrs i)

-- the first cell from i on, and the last before i, that passes the test; `none` where none does
abbrev pub first_from : (ℕ → Bool) → List ℕ → ℕ → ℕ → ℕ
first_from test attrs i none = first_of test none i (length attrs - i)

-- the same, around the screen
abbrev pub first_around : (ℕ → Bool) → List ℕ → ℕ → ℕ → ℕ
first_around test attrs i none = first_from test attrs i (first_from test attrs 0 none)

abbrev pub last_before : (ℕ → Bool) → List ℕ → ℕ → ℕ → ℕ
last_before test attrs i none = last_of test none (min i (length attrs))

-- the first cell of cell i's field, and the cell after its last
unfoldable pub field_start : List ℕ → ℕ → ℕ
field_start attrs i = last_before (starts_at attrs) attrs (i + 1) 0

unfoldable pub field_end : List ℕ → ℕ → ℕ
field_end attrs i = first_from (starts_at attrs) attrs (i + 1) (length attrs)

-- The document's term "edit span", by its end: it starts at the cursor and stops where the cursor's field or line stops, whichever
-- comes first; with protection suppressed only the line's end stops it.
unfoldable pub span_end : Bool → List ℕ → ℕ → ℕ → ℕ
span_end suppressed attrs cursor line_end = if suppressed then line_end else min (field_end attrs cursor) line_end

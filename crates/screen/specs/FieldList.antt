-- Document 02, request (vii): the list of all fields as records, and the unprotected field that a cell is in.
use Rattle.std.specs.Prelude.{◌≡◌, Bool, false, not, List, [], ◌∷◌, ℕ, zero, suc, ◌+◌, ◌-◌, ◌≤◌, ◌<◌, eqb, ltb, length, get_or, Option, Some, None, if◌then◌else◌}
use Rattle.screen.specs.Attributes.{protected_at}
use Rattle.screen.specs.Fields.{Field, opens_at, field_start, field_end}
use Rattle.screen.specs.declared.record.FieldRecord.{FieldRecord}
use Rattle.screen.specs.declared.record.Found.{Found}

-- ---- the list

-- zeros: what stands behind the last field
abbrev pub unused : FieldRecord
unused = record { start = 0; length = 0 }

abbrev pub record_at : List FieldRecord → ℕ → FieldRecord
record_at list k = get_or list k unused

-- The list as the request tells it: every field once, in reading order, and zeros from there to its end.
pub record FieldList (attrs : List ℕ) (list : List FieldRecord) : Type 0 where
  -- how many records say a field, and which of them says the field that starts at a cell
  pub used : ℕ
  pub place : ℕ → ℕ
  pub room : used ≤ length list
  pub each : (k : ℕ) → k < used → Field attrs (record_at list k).start ((record_at list k).start + (record_at list k).length)
  pub every : (s e : ℕ) → Field attrs s e → (place s < used) × (record_at list (place s) ≡ record { start = s; length = e - s })
  pub order : (j k : ℕ) → j < k → k < used → (record_at list j).start < (record_at list k).start
  pub zeros : (k : ℕ) → used ≤ k → record_at list k ≡ unused

-- The scan below says of exactly these lists that they agree: `list_is` and `list_only` in proofs/FieldListOrder.antt.

-- the record of the cells from `start` up to `end`; where there are none, zeros
abbrev pub record_of : ℕ → ℕ → FieldRecord
record_of start end = if ltb start end then record { start = start; length = end - start } else unused

-- n records: the field that starts at the cell, the one after it, and so on; behind the last cell of the screen, zeros
unfoldable pub fields_from : ℕ → List ℕ → ℕ → List FieldRecord
fields_from zero attrs cell = []
fields_from (suc n) attrs cell = record_of cell (field_end attrs cell) ∷ fields_from n attrs (field_end attrs cell)

abbrev pub fields_of : ℕ → List ℕ → List FieldRecord
fields_of n attrs = fields_from n attrs 0

abbrev pub same_record : FieldRecord → FieldRecord → Bool
same_record a b = if eqb a.start b.start then eqb a.length b.length else false

-- are the records the fields from the cell on, with no field left out?
unfoldable pub agrees_from : List FieldRecord → List ℕ → ℕ → Bool
agrees_from [] attrs cell = not (ltb cell (length attrs))
agrees_from (x ∷ xs) attrs cell =
    let end = field_end attrs cell in if same_record x (record_of cell end) then agrees_from xs attrs end else false

-- Refusal 13: fewer records than cells. Refusal 14: not the list of the fields, where an unused record is not zeros too.
abbrev pub too_short : List FieldRecord → ℕ → Bool
too_short list cells = ltb (length list) cells

abbrev pub agrees : List FieldRecord → List ℕ → Bool
agrees list attrs = agrees_from list attrs 0

-- ---- the question: the unprotected field that a cell is in, its number among them from 1, start and length, or none
-- Whether protection is suppressed does not matter to it.

-- by reading every attribute: as many unprotected fields start up to the cell
unfoldable pub opens_before : List ℕ → ℕ → ℕ
opens_before attrs zero = 0
opens_before attrs (suc i) = if opens_at attrs i then suc (opens_before attrs i) else opens_before attrs i

abbrev pub found : ℕ → FieldRecord → Option Found
found number field = Some (record { number = number; field = field })

abbrev pub found_by_reading : List ℕ → ℕ → Option Found
found_by_reading attrs cell =
    if protected_at attrs cell then None
    else found (opens_before attrs (suc cell)) (record { start = field_start attrs cell; length = field_end attrs cell - field_start attrs cell })

-- by the list: its records are gone through up to the one that has the cell, or the first zeros, and the unprotected ones are
-- counted. Of a field, one attribute byte is read. That both are the same: `query_reads` in proofs/FieldListLaws.antt.
abbrev pub has_cell : FieldRecord → ℕ → Bool
has_cell field cell = if ltb cell field.start then false else ltb (cell - field.start) field.length

abbrev pub counted : ℕ → Bool → ℕ
counted number protected = if protected then number else number + 1

unfoldable pub found_from : ℕ → List FieldRecord → List ℕ → ℕ → Option Found
found_from before [] attrs cell = None
found_from before (field ∷ rest) attrs cell =
    let protected = protected_at attrs field.start in
    if eqb field.length 0 then None
    else if has_cell field cell then (if protected then None else found (before + 1) field)
    else found_from (counted before protected) rest attrs cell

abbrev pub found_by_list : List FieldRecord → List ℕ → ℕ → Option Found
found_by_list list attrs cell = found_from 0 list attrs cell

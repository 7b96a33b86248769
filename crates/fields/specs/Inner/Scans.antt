-- A scan of the list: what it does with each record.
use Rattle.std.specs.Prelude.{Bool, not, ◌&&◌, List, [], ◌∷◌, ℕ, ◌+◌, eqb, ltb, length, if◌then◌else◌}
use Rattle.screen.specs.Fields.{starts_at}
use Rattle.screen.specs.declared.record.FieldRecord.{FieldRecord}
use Rattle.fields.specs.declared.scan.Scan.{Scan}
use Rattle.fields.specs.Inner.Starts.{starts_before}

abbrev pub begun : Scan
begun = record { cell = 0; count = 0 }

-- does a record start at the cell, with some cells?
abbrev pub is_next : ℕ → FieldRecord → Bool
is_next cell x = eqb x.start cell && not (eqb x.length 0)

-- the cell after its last
abbrev pub end_of : FieldRecord → ℕ
end_of x = x.start + x.length

-- does a field start at a cell of the screen?
abbrev pub goes_on : List ℕ → ℕ → Bool
goes_on attrs cell = ltb cell (length attrs) && starts_at attrs cell

-- one record more
abbrev pub longer : Scan → FieldRecord → Scan
longer s x = record { cell = end_of x; count = s.count + 1 }

-- a record is held against the cell where the one before ended, and where it ends a field starts
unfoldable pub scanned : Scan → List FieldRecord → List ℕ → Scan
scanned s [] attrs = s
scanned s (x ∷ xs) attrs =
    if is_next s.cell x then (if goes_on attrs (end_of x) then scanned (longer s x) xs attrs else longer s x) else s

-- the records end where the screen does, and there are as many as fields
abbrev pub all_read : Scan → List ℕ → Bool
all_read s attrs = eqb s.cell (length attrs) && eqb s.count (starts_before attrs (length attrs))

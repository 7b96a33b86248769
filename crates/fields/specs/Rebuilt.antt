-- Document 02, request (vii): the list after its first records were written anew.
use Rattle.std.specs.Prelude.{List, ◌++◌, ℕ, ltb, length, take, drop, if◌then◌else◌}
use Rattle.screen.specs.FieldList.{fields_of}
use Rattle.screen.specs.declared.record.FieldRecord.{FieldRecord}

-- no screen has more than 8,448 cells: for more attributes nothing is written
abbrev pub records_written : ℕ → ℕ → ℕ
records_written count cells = if ltb 8448 cells then 0 else count

-- The first `count` records are those of the list of the fields, the others are as they were. With a count of at least the list's
-- length that is the list of the fields: `rebuilt_all` in proofs/RecordLaws.antt.
abbrev pub rebuilt : ℕ → List ℕ → List FieldRecord → List FieldRecord
rebuilt count attrs list =
    let n = records_written count (length attrs) in take n (fields_of (length list) attrs) ++ drop n list

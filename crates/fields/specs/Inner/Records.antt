-- Records, as the code works with them.
use Rattle.std.specs.Prelude.{Bool, true, ◌&&◌, List, [], ◌∷◌, ℕ, ◌+◌, ◌*◌, eqb}
use Rattle.screen.specs.declared.record.FieldRecord.{FieldRecord}

-- both numbers of a record, side by side
abbrev pub joined : FieldRecord → ℕ
joined x = x.length * 4294967296 + x.start

abbrev pub is_unused : FieldRecord → Bool
is_unused x = eqb x.start 0 && eqb x.length 0

unfoldable pub all_unused : List FieldRecord → Bool
all_unused [] = true
all_unused (x ∷ xs) = is_unused x && all_unused xs

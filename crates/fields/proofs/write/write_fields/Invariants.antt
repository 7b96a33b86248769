use Rattle.std.proofs.Common.{◌≡◌, ◌++◌, ◌-◌, length, take}
use Rattle.screen.specs.FieldList.{fields_from, fields_of}
use Rattle.fields.proofs.write.write_fields.Given as goal

abbrev pub invariant-loop-k : goal.invariant-loop-k
invariant-loop-k l =
    take l.k l.list ++ fields_from (length l.list - l.k) l.attrs l.cell ≡ fields_of (length l.fn.list) l.attrs

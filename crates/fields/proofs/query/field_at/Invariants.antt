use Rattle.std.proofs.Common.{◌≡◌, ◌≤◌, drop}
use Rattle.screen.specs.FieldList.{found_from, found_by_list}
use Rattle.fields.proofs.query.field_at.Given as goal

abbrev pub invariant-loop-said : goal.invariant-loop-said
invariant-loop-said l =
    (l.number ≤ l.said-index) × (found_from l.number (drop l.said-index l.list) l.attrs l.cell ≡ found_by_list l.list l.attrs l.cell)

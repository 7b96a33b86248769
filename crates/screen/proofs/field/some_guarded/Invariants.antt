use Rattle.std.proofs.Common.{◌≡◌, ◌-◌, length}
use Rattle.screen.specs.Attributes.{guarded_at}
use Rattle.screen.specs.Fields.{first_from}
use Rattle.screen.proofs.field.some_guarded.Given as goal

abbrev pub invariant-loop-cell : goal.invariant-loop-cell
invariant-loop-cell l = first_from (guarded_at l.suppressed l.attrs) l.attrs l.from (length l.attrs) ≡ first_from (guarded_at l.suppressed l.attrs) l.attrs l.cell (length l.attrs)

abbrev pub decreases-loop-cell : goal.decreases-loop-cell
decreases-loop-cell l = length l.attrs - l.cell

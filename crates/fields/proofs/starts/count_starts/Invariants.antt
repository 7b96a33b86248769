use Rattle.std.proofs.Common.{◌≡◌, ◌-◌, ◌≤◌, ◌<◌, length}
use Rattle.fields.specs.Inner.Starts.{starts_before}
use Rattle.fields.proofs.starts.count_starts.Given as goal

abbrev pub invariant-loop-cell : goal.invariant-loop-cell
invariant-loop-cell l = (0 < l.cell) × (l.cell ≤ length l.attrs) × (l.count ≡ starts_before l.attrs l.cell)

abbrev pub decreases-loop-cell : goal.decreases-loop-cell
decreases-loop-cell l = length l.attrs - l.cell

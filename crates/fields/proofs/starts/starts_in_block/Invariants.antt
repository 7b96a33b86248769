use Rattle.std.proofs.Common.{◌≡◌, ◌+◌, ◌≤◌}
use Rattle.fields.specs.Inner.Starts.{starts_before}
use Rattle.fields.proofs.starts.starts_in_block.Given as goal

abbrev pub invariant-loop-cell : goal.invariant-loop-cell
invariant-loop-cell l = (l.count + l.from ≤ l.cell) × (starts_before l.attrs l.from + l.count ≡ starts_before l.attrs l.cell)

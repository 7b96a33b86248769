use Rattle.std.proofs.Common.{◌≤◌, length}
use Rattle.screen.specs.Inner.Skips.{NoneIn}
use Rattle.screen.proofs.block.behind.Given as goal

abbrev pub invariant-loop-cell : goal.invariant-loop-cell
invariant-loop-cell l = (l.cell ≤ l.end) × (l.end ≤ length l.attrs) × NoneIn l.attrs l.target l.cell l.end

abbrev pub decreases-loop-cell : goal.decreases-loop-cell
decreases-loop-cell l = l.cell

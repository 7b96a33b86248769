use Rattle.std.proofs.Common.{◌-◌, ◌≤◌, ◌<◌, length}
use Rattle.screen.specs.Inner.Skips.{NoneIn}
use Rattle.screen.proofs.block.past.Given as goal

abbrev pub invariant-loop-cell : goal.invariant-loop-cell
invariant-loop-cell l = (0 < l.from) × (l.from ≤ l.cell) × (l.cell ≤ l.end) × (l.end ≤ length l.attrs) × NoneIn l.attrs l.target l.from l.cell

abbrev pub decreases-loop-cell : goal.decreases-loop-cell
decreases-loop-cell l = l.end - l.cell

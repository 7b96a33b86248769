use Rattle.std.proofs.Common.{◌≡◌, ◌-◌, length}
use Rattle.tally.proofs.tally_of.Given as goal

abbrev pub invariant-loop-progress : goal.invariant-loop-progress
invariant-loop-progress l = l.progress.input.now ≡ l.input

abbrev pub decreases-loop-progress : goal.decreases-loop-progress
decreases-loop-progress l = length l.input - l.progress.at

use Rattle.std.proofs.Common.{◌-◌, ◌≤◌, length}
use Rattle.text.specs.Inner.Plain.{Each}
use Rattle.text.proofs.plain.by_sixteens.Given as goal

abbrev pub invariant-loop-n : goal.invariant-loop-n
invariant-loop-n g l = (l.n ≤ length l.bytes) × Each g.T.Test.passed l.bytes 0 l.n

abbrev pub decreases-loop-n : goal.decreases-loop-n
decreases-loop-n g l = length l.bytes - l.n

use Rattle.std.proofs.Common.{◌≡◌, true}
use Rattle.text.specs.Inner.Plain.{Each}
use Rattle.text.proofs.plain.sixteen.Given as goal

abbrev pub invariant-loop-i : goal.invariant-loop-i
invariant-loop-i g l = l.all ≡ true → Each g.T.Test.passed l.bytes l.from l.i

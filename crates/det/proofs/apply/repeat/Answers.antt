use Rattle.std.proofs.Common.{arith}
use Rattle.det.proofs.ApplyLaws.{repeating_more}
use Rattle.det.proofs.apply.repeat.Goals as goal

pub loop-done-preserved : goal.loop-done-preserved
loop-done-preserved c = repeating_more c.loop-done.invariant (omega (arith, c.loop-done-test.true)) c.put_character.ensures

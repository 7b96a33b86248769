use Rattle.std.proofs.Common.{◌-◌}
use Rattle.det.proofs.ApplyLaws.{Repeating}
use Rattle.det.proofs.apply.repeat.Given as goal

abbrev pub invariant-loop-done : goal.invariant-loop-done
invariant-loop-done l = Repeating l.byte l.count l.fn.canvas (l.count - l._done) l.canvas

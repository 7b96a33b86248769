use Rattle.std.proofs.Common.{◌≡◌, ◌&&◌, leb, drop}
use Rattle.rules.specs.Session.{all_marks}
use Rattle.admit.proofs.refuse.all_marks.Given as goal

abbrev pub invariant-loop-m : goal.invariant-loop-m
invariant-loop-m l = all_marks l.marks ≡ (all_marks (drop l.m-index l.marks) && leb l.high 1)

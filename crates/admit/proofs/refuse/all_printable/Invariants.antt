use Rattle.std.proofs.Common.{◌≡◌, ◌&&◌, leb, drop}
use Rattle.rules.specs.Session.{all_printable}
use Rattle.admit.proofs.refuse.all_printable.Given as goal

abbrev pub invariant-loop-c : goal.invariant-loop-c
invariant-loop-c l = all_printable l.chars ≡ (all_printable (drop l.c-index l.chars) && (leb 32 l.low && leb l.high 126))

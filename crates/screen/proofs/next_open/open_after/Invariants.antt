use Rattle.std.proofs.Common.{◌≡◌}
use Rattle.screen.proofs.OpenAfter.{Seeking}
use Rattle.screen.proofs.next_open.open_after.Given as goal

abbrev pub invariant-loop-x : goal.invariant-loop-x
invariant-loop-x l = (l.«open» ≡ l.initial.open) × Seeking l.suppressed l.attrs l.width l.height l.«open» l.x l.y

abbrev pub invariant-scan : goal.invariant-scan
invariant-scan l = (l.«open» ≡ l.initial.open) × Seeking l.suppressed l.attrs l.width l.height l.«open» l.left l.y

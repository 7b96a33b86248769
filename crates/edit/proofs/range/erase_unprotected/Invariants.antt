use Rattle.std.proofs.Common.{false, not, ◌&&◌, ◌≤◌}
use Rattle.screen.specs.Words.{in_range}
use Rattle.screen.specs.Attributes.{guarded_at}
use Rattle.edit.proofs.ListLaws.{Storing}
use Rattle.edit.proofs.range.erase_unprotected.Given as goal

abbrev pub invariant-loop-i : goal.invariant-loop-i
invariant-loop-i l = (l.from ≤ l.i) × Storing (λ k. in_range l.from l.end k && not (guarded_at false l.attrs k)) 32 32 l.fn.chars l.i l.chars

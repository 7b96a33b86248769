use Rattle.std.proofs.Common.{◌≡◌, true}
use Rattle.screen.proofs.SkipLaws.{AllPassed}
use Rattle.screen.proofs.block.none_in_block.Given as goal

abbrev pub invariant-loop-i : goal.invariant-loop-i
invariant-loop-i l = l.none ≡ true → AllPassed l.attrs l.protected l.alike l.cell l.i

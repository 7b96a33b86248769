use Rattle.std.proofs.Common.{◌≡◌}
use Rattle.screen.specs.Words.{last_of}
use Rattle.screen.specs.Fields.{last_before}
use Rattle.screen.specs.Scans.{is_target}
use Rattle.screen.proofs.scan.last.Given as goal

abbrev pub invariant-loop-cell : goal.invariant-loop-cell
invariant-loop-cell l = last_before (is_target l.attrs l.target) l.attrs l.before l.none ≡ last_of (is_target l.attrs l.target) l.none l.cell

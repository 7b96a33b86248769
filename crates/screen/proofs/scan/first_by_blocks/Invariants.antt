use Rattle.std.proofs.Common.{◌≡◌, ◌-◌}
use Rattle.screen.specs.Words.{first_of}
use Rattle.screen.specs.Scans.{is_target}
use Rattle.screen.proofs.scan.first_by_blocks.Given as goal

abbrev pub invariant-loop-cell : goal.invariant-loop-cell
invariant-loop-cell l = first_of (is_target l.attrs l.target) l.none l.from (l.end - l.from) ≡ first_of (is_target l.attrs l.target) l.none l.cell (l.end - l.cell)

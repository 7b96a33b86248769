use Rattle.std.proofs.Common.{◌-◌, length}
use Rattle.text.specs.Inner.Canvas.{Drawn}
use Rattle.text.proofs.canvas.Canvas.host_text.Given as goal

abbrev pub invariant-loop-at : goal.invariant-loop-at
invariant-loop-at l = Drawn l.joins l.cr l.bytes l.fn.self l.at l.self

abbrev pub decreases-loop-at : goal.decreases-loop-at
decreases-loop-at l = length l.bytes - l.at

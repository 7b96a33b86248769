use Rattle.std.proofs.Common.{◌-◌, ◌≤◌}
use Rattle.text.specs.Inner.Canvas.{DrawStep}
use Rattle.text.proofs.canvas.Canvas.put_text.Given as goal

abbrev pub invariant-loop-at : goal.invariant-loop-at
invariant-loop-at l = DrawStep l.bytes l.from l.fn.self l.at l.self × (l.from ≤ l.at) × (l.at ≤ l.end)

abbrev pub decreases-loop-at : goal.decreases-loop-at
decreases-loop-at l = l.end - l.at

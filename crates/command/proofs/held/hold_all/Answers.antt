use Rattle.command.proofs.HeldLaws.{held_full}
use Rattle.command.proofs.held.hold_all.Goals as goal

pub returns-then-after-ge6 : goal.returns-then-after-ge6
returns-then-after-ge6 c = held_full c.args.input.now c.args.held c.loop-byte.byte-index c.loop-byte.invariant c.if-after-ge6.true

use Rattle.std.proofs.Common.{◌-◌, length}
use Rattle.reply.proofs.WriteLaws.{WritingTo}
use Rattle.reply.proofs.Reply.put_fields.Given as goal

abbrev pub invariant-loop-cell : goal.invariant-loop-cell
invariant-loop-cell l = WritingTo l.separator.code l.fn.self l.screen.chars.now l.screen.attrs.now l.self l.first l.cell

abbrev pub decreases-loop-cell : goal.decreases-loop-cell
decreases-loop-cell l = length l.attrs - l.cell

use Rattle.std.proofs.Common.{◌-◌, length}
use Rattle.reply.proofs.ModifiedLaws.{Modifying}
use Rattle.reply.proofs.Reply.put_modified.Given as goal

abbrev pub invariant-loop-cell : goal.invariant-loop-cell
invariant-loop-cell l = Modifying l.code l.width l.screen.chars.now l.screen.attrs.now l.screen.marks.now l.fn.self l.self l.cell

abbrev pub decreases-loop-cell : goal.decreases-loop-cell
decreases-loop-cell l = length l.attrs - l.cell

use Rattle.reply.proofs.SingleLaws.{WritingSingles}
use Rattle.reply.proofs.Reply.put_singles.Given as goal

abbrev pub invariant-loop-i : goal.invariant-loop-i
invariant-loop-i l = WritingSingles l.separator.code 32 l.initial.run l.chars l.cell l.run l.i

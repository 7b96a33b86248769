use Rattle.reply.proofs.WriteLaws.{writing_all, doubled_end}
use Rattle.reply.proofs.Reply.put_payload.Goals as goal

pub returns : goal.returns
returns c = writing_all c.loop-byte.invariant (doubled_end _ _ c.loop-byte-test.false)

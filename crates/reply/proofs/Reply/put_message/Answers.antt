use Rattle.reply.proofs.WriteLaws.{puts_then}
use Rattle.reply.proofs.Reply.put_message.Goals as goal

pub returns : goal.returns
returns c = puts_then c.put_bytes.ensures (puts_then c.put_payload.ensures c.put_bytes-2.ensures)

use Rattle.reply.proofs.WriteLaws.{puts_then}
use Rattle.reply.proofs.Reply.put_form.Goals as goal

pub returns : goal.returns
returns c = rw (← c.of.ensures, ← c.transmit_code.ensures) (puts_then c.put_preface.ensures c.put_fields.ensures)

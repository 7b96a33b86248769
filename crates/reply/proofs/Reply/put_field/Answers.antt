use Rattle.reply.proofs.WriteLaws.{puts_then}
use Rattle.reply.proofs.Reply.put_field.Goals as goal

pub returns : goal.returns
returns c = puts_then c.put_separator.ensures c.put_range.ensures

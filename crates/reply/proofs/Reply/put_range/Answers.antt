use Rattle.std.proofs.Common.{refl}
use Rattle.reply.proofs.WriteLaws.{copied_piece}
use Rattle.reply.proofs.Reply.put_range.Goals as goal

pub returns : goal.returns
returns c = record { same_buffer = refl; wrote = copied_piece c.copy_text-self.ensures }

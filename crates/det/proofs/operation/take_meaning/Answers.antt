use Rattle.std.proofs.Common.{rules}
use Rattle.reply.proofs.WriteLaws.{puts_end}
use Rattle.det.proofs.ApplyLaws.{draws_end}
use Rattle.det.proofs.KeyLaws.{key_settled}
use Rattle.det.proofs.operation.take_meaning.Goals as goal

pub returns : goal.returns
returns c =
    key_settled _ _ _ c.requires.not_refused c.requires.line_leaves c.key_of.ensures c.press-decision.ensures
    (puts_end c.say.ensures (search rules)) (draws_end c.change_chars.ensures (search rules)) c.mark.ensures

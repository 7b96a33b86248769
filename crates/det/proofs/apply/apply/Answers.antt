use Rattle.std.proofs.Common.{◌∙◌}
use Rattle.det.proofs.ApplyLaws.{marking_of_lem, puts_said}
use Rattle.det.proofs.apply.apply.Goals as goal

-- the reply, the characters, the attribute bytes and the marks are each settled by one call
pub returns : goal.returns
returns c =
    let done = c.change_any-frame.ensures in
    record {
      changes = record { frame = done.frame; characters = done.characters };
      attributes = c.format_attrs.ensures;
      marks = c.mark.ensures ∙ rw (marking_of_lem _ c.args.decision.edit);
      replies = puts_said c.requires c.say_any.ensures;
    }

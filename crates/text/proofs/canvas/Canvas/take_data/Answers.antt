use Rattle.std.proofs.Common.{sym, ◌∙◌}
use Rattle.decide.proofs.WriteLaws.{control_is}
use Rattle.text.proofs.CanvasLaws.{drawn_at}
use Rattle.text.proofs.canvas.Canvas.take_data.Goals as goal

pub returns : goal.returns
returns c =
    drawn_at _ (control_is _ _ (sym c.is_printable.ensures ∙ c.if-is_printable.false) ∙ c.control-self.ensures _)

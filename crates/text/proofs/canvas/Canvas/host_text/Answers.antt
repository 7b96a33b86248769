use Rattle.std.proofs.Common.{sym, ◌∙◌}
use Rattle.text.proofs.CanvasLaws.{drawn_none, drawn_character, drawn_control, drawn_all}
use Rattle.text.proofs.canvas.Canvas.host_text.Goals as goal

pub loop-at-init : goal.loop-at-init
loop-at-init c = drawn_none

pub loop-at-preserved-then-not-is_printable : goal.loop-at-preserved-then-not-is_printable
loop-at-preserved-then-not-is_printable c =
    drawn_control c.loop-at.invariant c.loop-at-test.true (sym c.is_printable.ensures ∙ c.if-not-is_printable.true)
    c.obey_control.ensures

pub loop-at-preserved-then-not-character_at : goal.loop-at-preserved-then-not-character_at
loop-at-preserved-then-not-character_at c =
    drawn_character c.loop-at.invariant c.loop-at-test.true (sym c.is_printable.ensures ∙ c.if-not-is_printable.false)
    c.put_character.ensures

pub returns : goal.returns
returns c = drawn_all c.loop-at.invariant c.loop-at-test.false

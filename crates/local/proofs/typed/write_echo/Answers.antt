use Rattle.std.proofs.Common.{refl, arith}
use Rattle.text.proofs.CanvasLaws.{drawn_none, drawn_more, drawn_all}
use Rattle.local.proofs.typed.write_echo.Goals as goal

pub loop-i-init : goal.loop-i-init
loop-i-init c = drawn_none

pub loop-i-preserved : goal.loop-i-preserved
loop-i-preserved c =
    drawn_more c.loop-i.invariant (omega (arith, c.loop-i-test.true, c.echo_length-i-end.ensures)) refl
    (rw c.echo_at.ensures at c.take_data.ensures)

pub returns : goal.returns
returns c = drawn_all c.loop-i.invariant (omega (arith, c.loop-i-test.false, c.echo_length-i-end.ensures))

use Rattle.std.proofs.Common.{◌≡◌, true, false, rules}
use Rattle.text.specs.Inner.Text.{passed_at}
use Rattle.text.proofs.CanvasLaws.{drawn_at}
use Rattle.text.proofs.canvas.Canvas.obey_control.Goals as goal

pub returns-then-is_joined : goal.returns-then-is_joined
returns-then-is_joined c =
    let a = c.args in
    let e : passed_at a.joins a.cr a.bytes.now a.at ≡ true = search rules in
    drawn_at a.self.now.frame.cursor (rw e)

pub returns : goal.returns
returns c =
    let a = c.args in
    let e : passed_at a.joins a.cr a.bytes.now a.at ≡ false = search rules in
    drawn_at c.control-self.result (rw e (c.control-self.ensures _))

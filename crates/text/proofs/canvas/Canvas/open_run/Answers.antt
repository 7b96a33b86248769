use Rattle.std.proofs.Common.{arith}
use Rattle.text.proofs.PlainLaws.{free_each}
use Rattle.text.proofs.canvas.Canvas.open_run.Goals as goal

pub returns : goal.returns
returns c =
    let r = c.room_on_line.ensures in
    let m = c.min-few.ensures in
    let s = c.min.ensures in
    let p = c.count_unguarded.ensures in
    let e = rw c.cursor_cell-cell.ensures at p.1 in
    record {
      few = omega (arith, p.0, m);
      line = omega (arith, p.0, m, r.0);
      characters = omega (arith, p.0, m, r.1, s);
      free = λ k h. free_each c.args.self.now.frame.suppressed e (omega (arith, p.0, m, r.1, s)) h;
    }

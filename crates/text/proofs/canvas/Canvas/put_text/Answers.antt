use Rattle.std.proofs.Common.{arith}
use Rattle.text.proofs.CanvasLaws.{row_last, row_copied}
use Rattle.text.proofs.canvas.Canvas.put_text.Goals as goal

-- the last counts of a run go by one write
pub loop-at-preserved-then-count-eq0 : goal.loop-at-preserved-then-count-eq0
loop-at-preserved-then-count-eq0 c =
    let i = c.loop-at.invariant in
    let l = c.last_counts-at.ensures in (
      row_last i.0 c.requires.2 i.1 c.loop-at-test.true c.requires.1 l c.put_character.ensures,
      omega (arith, i.1, l.further),
      l.within,
    )

-- characters in free cells go by one copy
pub loop-at-preserved : goal.loop-at-preserved
loop-at-preserved c =
    let i = c.loop-at.invariant in
    let o = c.open_run-count.ensures in (
      row_copied i.0 c.requires.2 i.1 c.loop-at-test.true c.requires.1 o c.if-count-eq0.false c.cursor_cell.ensures
          c.copy_text.ensures c.go_right.ensures,
      omega (arith, i.1),
      omega (arith, c.loop-at-test.true, o.few),
    )

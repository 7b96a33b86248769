use Rattle.reply.proofs.ModifiedLaws.{modifying_start, modifying_more, modifying_all}
use Rattle.reply.proofs.Reply.put_modified.Goals as goal

pub loop-cell-init : goal.loop-cell-init
loop-cell-init c = modifying_start c.field_from-cell.ensures

pub loop-cell-preserved : goal.loop-cell-preserved
loop-cell-preserved c =
    modifying_more c.loop-cell.invariant c.loop-cell-test.true c.field_end-end.ensures c.put_marked.ensures
    c.field_from-cell-in-loop-cell.ensures

pub returns : goal.returns
returns c = modifying_all c.loop-cell.invariant c.loop-cell-test.false

use Rattle.std.proofs.Common.{arith}
use Rattle.reply.proofs.WriteLaws.{fields_start, fields_all, to_next, to_more}
use Rattle.reply.proofs.SingleLaws.{to_after}
use Rattle.reply.proofs.Reply.put_fields.Goals as goal

pub loop-cell-init : goal.loop-cell-init
loop-cell-init c = to_next fields_start (omega arith) c.field_from-cell.ensures

pub loop-cell-preserved-then-are_singles : goal.loop-cell-preserved-then-are_singles
loop-cell-preserved-then-are_singles c =
    to_after c.loop-cell.invariant (c.are_singles.ensures c.if-are_singles.true) c.put_singles.ensures

pub loop-cell-preserved : goal.loop-cell-preserved
loop-cell-preserved c =
    to_more c.loop-cell.invariant c.loop-cell-test.true c.field_end-end.ensures c.put_field.ensures
    c.field_from-cell-in-loop-cell.ensures

pub returns : goal.returns
returns c = fields_all c.loop-cell.invariant.fields c.loop-cell-test.false

use Rattle.std.proofs.Common.{◌≡◌, ◌∙◌, arith}
use Rattle.screen.specs.FieldList.{unused}
use Rattle.fields.proofs.RecordLaws.{to_be-zeros}
use Rattle.fields.proofs.write.write_fields.Goals as goal

pub returns-then-attrs-cell : goal.returns-then-attrs-cell
returns-then-attrs-cell c =
    let zeros : c.default.result ≡ unused = λ i. record { start = c.default.ensures.0 i; length = c.default.ensures.1 i } in
    to_be-zeros c.args.attrs.now c.loop-k.list _ c.loop-k.k c.loop-k.cell (omega arith) c.if-attrs-cell.true
    (rw zeros at (c.fill.ensures.after (λ y e. e)))
    ∙ c.loop-k.invariant

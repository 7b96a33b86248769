use Rattle.std.proofs.Common.{◌∙◌, arith}
use Rattle.edit.specs.Edits.{erased}
use Rattle.edit.proofs.ListLaws.{storing_either, storing_end}
use Rattle.edit.proofs.EditLaws.{kept_cell, not_erased}
use Rattle.edit.proofs.range.erase_unprotected.Goals as goal

pub loop-i-preserved : goal.loop-i-preserved
loop-i-preserved c =
    let l = c.loop-i in
    let a = c.args in (
      omega arith,
      storing_either l.invariant.1 (omega arith)
          (c.kept.ensures ∙ kept_cell a.attrs.now a.from a.end l.i (omega arith) (omega arith) (omega arith) _),
    )

pub returns : goal.returns
unfolding erased
returns c =
    let a = c.args in
    storing_end c.loop-i.invariant.1 (λ k p q. not_erased a.attrs.now a.from a.end k (omega arith))

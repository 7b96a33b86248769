use Rattle.std.proofs.lemmas.Result.{err_from_is_err_and}
use Rattle.rules.specs.Session.{screen, state}
use Rattle.det.proofs.KeyLaws.{refused_first, refused_last}
use Rattle.det.proofs.operation.refuse_key.Goals as goal

pub returns-in_err-refuse : goal.returns-in_err-refuse
returns-in_err-refuse c =
    let a = c.args in
    let p = err_from_is_err_and c.from_residual.result c.from_residual.ensures.1 in
    rw (p.1, p.2)
    (refused_first (state a.session (screen a.chars.now a.attrs.now a.marks.now)) a.reply.now a.code c.in_err-refuse.ensures)

pub returns : goal.returns
returns c =
    let a = c.args in
    refused_last (state a.session (screen a.chars.now a.attrs.now a.marks.now)) a.reply.now a.code c.refuse.ensures
    c.in_ok-refuse.was (c.refuse_press.ensures a.chars.now a.marks.now)

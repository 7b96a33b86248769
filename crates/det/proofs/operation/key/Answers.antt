use Rattle.rules.specs.Session.{screen, state}
use Rattle.rules.specs.Operation.{one_key}
use Rattle.admit.proofs.SettleLaws.{settled_refused}
use Rattle.det.proofs.operation.key.Goals as goal

pub returns-in-Err : goal.returns-in-Err
unfolding one_key
returns-in-Err c =
    let a = c.args in
    settled_refused (state a.session (screen a.chars.now a.attrs.now a.marks.now)) a.reply.now _ c.in-Err.ensures c.refused.ensures

use Rattle.rules.specs.Session.{screen, state}
use Rattle.rules.specs.Operation.{host_bytes}
use Rattle.admit.proofs.SettleLaws.{settled_refused}
use Rattle.det.proofs.operation.host_bytes.Goals as goal

pub returns-in-Err : goal.returns-in-Err
unfolding host_bytes
returns-in-Err c =
    let a = c.args in
    settled_refused (state a.session (screen a.chars.now a.attrs.now a.marks.now)) a.reply.now _ c.in-Err.ensures c.refused.ensures

use Rattle.admit.proofs.SettleLaws.{open_refused}
use Rattle.admit.proofs.open.open.Goals as goal

pub returns-in-Err : goal.returns-in-Err
returns-in-Err c = open_refused _ _ _ _ c.in-Err.ensures c.fresh_session.ensures c.refused.ensures

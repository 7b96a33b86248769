use Rattle.decide.proofs.DecideLaws.{where_some, where_none}
use Rattle.decide.proofs.obey.decide_end.Goals as goal

pub returns-in-Some : goal.returns-in-Some
returns-in-Some c = where_some _ c.in-Some.ensures c.end.ensures

pub returns-in-None : goal.returns-in-None
returns-in-None c = where_none _ c.in-None.ensures c.quiet.ensures

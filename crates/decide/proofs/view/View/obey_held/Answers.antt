use Rattle.decide.proofs.ObeyLaws.{looked_known}
use Rattle.decide.proofs.view.View.obey_held.Goals as goal

pub returns-in-Some : goal.returns-in-Some
returns-in-Some c =
    looked_known {v = c.args.self.now} {d = c.judge.result} c.args.held {e = c.self.inside.frame.edition} c.if-held-eq0.false
    (rw (← c.self.view_is)) c.code-number.ensures c.in-Some.ensures c.judge.ensures

use Rattle.decide.proofs.ObeyLaws.{errs}
use Rattle.decide.proofs.view.View.judge.Goals as goal

pub returns-in_default : goal.returns-in_default
returns-in_default c =
    rw (← c.self.view_is) (errs c.args.held c.in-Err.ensures c.in_default.not-OffScreen c.code-in_default.ensures c.err-in_default.ensures)

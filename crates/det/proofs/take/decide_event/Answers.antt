use Rattle.decide.proofs.DecideLaws.{recast, fits_rule}
use Rattle.det.specs.Inner.Data.{told_effect}
use Rattle.det.proofs.take.decide_event.Goals as goal

pub returns-in-Negotiation : goal.returns-in-Negotiation
unfolding told_effect
returns-in-Negotiation c = recast (c.negotiate.ensures _) (rw c.in-Negotiation.is)

pub returns-in-End : goal.returns-in-End
unfolding told_effect
returns-in-End c = recast (fits_rule _ c.requires c.decide_end.ensures) (rw c.in-End.is)

use Rattle.rules.specs.Telnet.{negotiated}
use Rattle.decide.proofs.negotiate.negotiate.Goals as goal

pub returns-in-Do : goal.returns-in-Do
unfolding negotiated
returns-in-Do c attrs = rw c.in-Do.is (c.asked_to.ensures attrs)

pub returns-in-Dont : goal.returns-in-Dont
unfolding negotiated
returns-in-Dont c attrs = rw c.in-Dont.is (c.asked_not_to.ensures attrs)

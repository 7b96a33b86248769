use Rattle.telnet.proofs.StretchLaws.{stretch_lies}
use Rattle.tally.proofs.Laws.{stretch_counted}
use Rattle.tally.proofs.Progress.stretch.Goals as goal

pub overflow_sub-stretch : goal.overflow_sub-stretch
overflow_sub-stretch c = rw c.stretch_at-stretch.ensures (stretch_lies _ _ _ c.requires.more).onward

pub returns-clause-further : goal.returns-clause-further
returns-clause-further c = rw c.stretch_at-stretch.ensures (stretch_lies _ _ _ c.requires.more).further

pub invariant_of-result : goal.invariant_of-result
invariant_of-result c =
    let p = c.args.self in
    let k = stretch_counted (record { whole = p.whole; few = p.few }) c.requires.more c.requires.inside c.stretch_at-stretch.ensures in
    rw c.stretched.ensures (record { whole = k.whole; few = k.few })

use Rattle.tally.proofs.Laws.{byte_counted}
use Rattle.tally.proofs.Progress.byte.Goals as goal

pub invariant_of-result : goal.invariant_of-result
invariant_of-result c =
    let p = c.args.self in
    let k = byte_counted (record { whole = p.whole; few = p.few }) c.requires.more in
    rw (c.counted.ensures, c.read-step.ensures, c.requires.here) (record { whole = k.whole; few = k.few })

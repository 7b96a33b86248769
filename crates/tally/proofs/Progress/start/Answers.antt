use Rattle.tally.proofs.Laws.{start_counted}
use Rattle.tally.proofs.Progress.start.Goals as goal

pub invariant_of-result : goal.invariant_of-result
invariant_of-result c =
    let z = c.default.ensures in
    let k = start_counted c.args.input.now c.default.result z.0 z.1.0 z.1.1.0 z.1.1.1 in
    record { whole = k.whole; few = k.few }

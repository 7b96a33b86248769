use Rattle.std.proofs.Common.{arith}
use Rattle.telnet.proofs.AheadLaws.{ahead_stands}
use Rattle.tally.proofs.Laws.{sub_counted}
use Rattle.tally.proofs.Progress.whole_sub.Goals as goal

pub overflow_sub-result : goal.overflow_sub-result
overflow_sub-result c = let k = (ahead_stands _ _ _ c.look_ahead.ensures c.in-Some.is).1 in omega (arith, k.forth)

pub overflow_add-result : goal.overflow_add-result
overflow_add-result c =
    let p = c.args.self in
    let w = ahead_stands _ _ _ c.look_ahead.ensures c.in-Some.is in
    let k = sub_counted (record { whole = p.whole; few = p.few }) w in
    let h = w.1.within in
    omega arith

pub overflow_add-result-2 : goal.overflow_add-result-2
overflow_add-result-2 c =
    let p = c.args.self in
    let w = ahead_stands _ _ _ c.look_ahead.ensures c.in-Some.is in
    let k = sub_counted (record { whole = p.whole; few = p.few }) w in
    let h = w.1.within in
    omega arith

pub returns-clause-forth : goal.returns-clause-forth
returns-clause-forth c =
    let k = (ahead_stands _ _ _ c.look_ahead.ensures c.in-Some.is).1 in omega (arith, k.after, k.forth, k.on)

pub invariant_of-result : goal.invariant_of-result
invariant_of-result c =
    let p = c.args.self in
    let k = sub_counted (record { whole = p.whole; few = p.few }) (ahead_stands _ _ _ c.look_ahead.ensures c.in-Some.is) in
    record { whole = k.whole; few = k.few }

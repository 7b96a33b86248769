use Rattle.std.proofs.Common.{arith, ne_eqb}
use Rattle.telnet.proofs.AheadLaws.{ahead_stands}
use Rattle.det.proofs.QuietLaws.{told_whole}
use Rattle.det.proofs.take.told_at.Goals as goal

pub slice_bounds-held_of-count : goal.slice_bounds-held_of-count
slice_bounds-held_of-count c = (ahead_stands _ _ _ c.look_ahead.ensures c.in-Some.is).1.forth

pub slice_bounds-held_of-start : goal.slice_bounds-held_of-start
slice_bounds-held_of-start c = (ahead_stands _ _ _ c.look_ahead.ensures c.in-Some.is).1.forth

pub slice_bounds-held_of-end : goal.slice_bounds-held_of-end
slice_bounds-held_of-end c =
    let w = (ahead_stands _ _ _ c.look_ahead.ensures c.in-Some.is).1 in omega (arith, w.on, w.within)

pub returns-in-Some : goal.returns-in-Some
returns-in-Some c =
    told_whole (ahead_stands _ _ _ c.look_ahead.ensures c.in-Some.is) (ne_eqb _ _ c.if-sub-ne-X3.true)
    c.held_of.ensures c.none.ensures

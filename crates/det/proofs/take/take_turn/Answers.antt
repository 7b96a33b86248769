use Rattle.std.proofs.Common.{arith}
use Rattle.det.proofs.HostLaws.{stretch_accepts, stretch_outside, stretch_onward, stretch_turns, then_turns}
use Rattle.det.proofs.take.take_turn.Goals as goal

pub returns-then-here-stretch-clause-turns : goal.returns-then-here-stretch-clause-turns
returns-then-here-stretch-clause-turns c = stretch_turns c.args.here.now _ (c.take_stretch-stretch.ensures c.args.marks.now)

pub invariant_of-next-clause-outside : goal.invariant_of-next-clause-outside
invariant_of-next-clause-outside c = stretch_outside c.args.here.now c.args.reply.now (c.take_stretch-stretch.ensures c.args.marks.now)

pub take_told-requires : goal.take_told-requires
take_told-requires c = stretch_accepts c.args.here.now c.args.reply.now (c.take_stretch-stretch.ensures c.args.marks.now) c.requires

pub returns-clause-onward : goal.returns-clause-onward
returns-clause-onward c =
    omega (arith, stretch_onward c.args.here.now c.args.reply.now (c.take_stretch-stretch.ensures c.args.marks.now), c.take_told.ensures.onward)

pub returns-clause-turns : goal.returns-clause-turns
returns-clause-turns c = then_turns c.args.here.now _ (c.take_stretch-stretch.ensures c.args.marks.now) _ c.take_told.ensures.turns

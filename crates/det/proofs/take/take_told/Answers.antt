use Rattle.det.proofs.HostLaws.{told_answerable, told_turns}
use Rattle.det.proofs.take.take_told.Goals as goal

pub happen-frame-requires : goal.happen-frame-requires
happen-frame-requires c = told_answerable c.args.here.now _ c.args.reply.now c.told_at-told.ensures c.requires

pub returns-clause-onward : goal.returns-clause-onward
returns-clause-onward c = (told_turns c.args.here.now _ _ c.told_at-told.ensures c.happen-frame.ensures).0

pub returns-clause-turns : goal.returns-clause-turns
returns-clause-turns c = (told_turns c.args.here.now _ _ c.told_at-told.ensures c.happen-frame.ensures).1

use Rattle.det.proofs.take.take_stretch.Goals as goal

pub returns-in-Inside : goal.returns-in-Inside
returns-in-Inside c marks = c.take_payload.ensures _

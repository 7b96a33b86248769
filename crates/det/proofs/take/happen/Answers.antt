use Rattle.std.proofs.Common.{rules}
use Rattle.det.specs.Inner.Data.{det_effect}
use Rattle.det.proofs.ApplyLaws.{draws_end}
use Rattle.det.proofs.TakeLaws.{data_applies}
use Rattle.det.proofs.take.happen.Goals as goal

pub returns-in-Data : goal.returns-in-Data
unfolding det_effect
returns-in-Data c = rw c.in-Data.is (data_applies _ _ _ _ (draws_end c.obey_data.ensures (search rules)))

use Rattle.std.proofs.Common.{refl, rules}
use Rattle.det.proofs.ApplyLaws.{draws_end}
use Rattle.det.proofs.QuietLaws.{text_turn, joins_by}
use Rattle.det.proofs.take.take_text.Goals as goal

pub returns : goal.returns
returns c marks p prints =
    let here = c.args.here.now in
    let done = c.take_bytes-cr.ensures in
    text_turn here.more _ c.data_ahead-stretch.ensures c.requires refl _ (joins_by here.frame.now p prints)
    (draws_end done.draws (search rules)) done.ends

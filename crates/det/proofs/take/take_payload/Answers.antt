use Rattle.std.proofs.Common.{refl}
use Rattle.det.proofs.QuietLaws.{payload_turn, inside_other}
use Rattle.det.proofs.take.take_payload.Goals as goal

pub returns : goal.returns
returns c b p prints =
    let here = c.args.here.now in
    payload_turn here.more _ c.payload_at-stretch.ensures _ c.requires refl (inside_other c.requires here.outside) c.hold_all.ensures

use Rattle.layout.proofs.Kit.{refl, arith, emitted_then}
use Rattle.layout.proofs.CopyLaws.{emitted_copy}
use Rattle.layout.proofs.write.put_pad.Goals as goal

pub returns : goal.returns
returns c =
    emitted_then (emitted_copy {k = 28} c.copy_from_slice.ensures.after (omega arith) (omega arith) refl)
    (emitted_then c.put_line.ensures c.put_message.ensures)

use Rattle.layout.proofs.Kit.{refl, length-set, arith}
use Rattle.layout.proofs.CopyLaws.{emitted_first, emitted_copy}
use Rattle.layout.proofs.write.put_message.Goals as goal

pub returns : goal.returns
returns c =
    rw (← c.from-next.ensures)
    (emitted_first (emitted_first (emitted_first (emitted_copy {k = 28} c.copy_from_slice.ensures.after (omega arith) (simp length-set (omega arith)) refl))))

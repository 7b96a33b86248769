use Rattle.layout.proofs.Kit.{refl, length-set, arith}
use Rattle.layout.proofs.CopyLaws.{emitted_first, emitted_copy, emitted_last}
use Rattle.layout.proofs.write.put_reader.Goals as goal

pub returns : goal.returns
returns c =
    rw (← c.from-place.ensures)
    (emitted_first (emitted_first (emitted_first (emitted_last _ (emitted_copy {k = 6} c.copy_from_slice.ensures.after (omega arith) (simp length-set (omega arith)) refl) refl))))

use Rattle.layout.proofs.Kit.{refl, length-set, arith}
use Rattle.layout.proofs.CopyLaws.{emitted_first, emitted_copy}
use Rattle.layout.proofs.write.put_line.Goals as goal

pub returns : goal.returns
returns c = emitted_first (emitted_copy {k = 128} c.copy_from_slice.ensures.after (omega arith) (simp length-set (omega arith)) refl)

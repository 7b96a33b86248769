use Rattle.std.proofs.Common.{refl, arith, add-one, length-set}
use lib.Seq.{paste-zero, paste-suc}
use Rattle.edit.proofs.text.copy.Goals as goal

pub loop-i-init : goal.loop-i-init
loop-i-init c = (refl, paste-zero c.args.reply.now c.args.at c.args.text.now)

pub loop-i-preserved : goal.loop-i-preserved
loop-i-preserved c =
    let l = c.loop-i in
    let a = c.args in
    let next = paste-suc a.reply.now a.at a.text.now l.i 0 (omega arith) (omega arith) in
    (simp length-set (omega arith), rw (l.invariant.1, add-one) next)

use Rattle.std.proofs.Common.{◌≡◌, true, false}
use Rattle.reply.specs.Inner.Single.{EachOpens}
use Rattle.reply.proofs.single.each_opens.Given as goal

abbrev pub invariant-loop-i : goal.invariant-loop-i
invariant-loop-i l = (l.all ≡ true → EachOpens l.attrs l.cell l.i) × (l.all ≡ false → EachOpens l.attrs l.cell 32 → ⊥)

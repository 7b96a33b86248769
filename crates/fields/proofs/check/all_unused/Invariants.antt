use Rattle.std.proofs.Common.{◌≡◌, ◌&&◌, eqb, drop}
use Rattle.fields.specs.Inner.Records.{all_unused}
use Rattle.fields.proofs.check.all_unused.Given as goal

abbrev pub invariant-loop-said : goal.invariant-loop-said
invariant-loop-said l = (eqb l.any 0 && all_unused (drop l.said-index l.list)) ≡ all_unused l.list

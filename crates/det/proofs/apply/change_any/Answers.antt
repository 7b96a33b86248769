use Rattle.std.proofs.Common.{rules}
use Rattle.det.proofs.ApplyLaws.{changes_none, draws_end}
use Rattle.det.proofs.apply.change_any.Goals as goal

pub returns-in-Nothing : goal.returns-in-Nothing
returns-in-Nothing c = rw c.in-Nothing.is (changes_none _ _ _)

pub returns : goal.returns
returns c = draws_end c.change_chars.ensures (search rules)

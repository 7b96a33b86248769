use Rattle.std.proofs.Common.{sym, rules}
use Rattle.pad.proofs.LineLaws.{trimmed_last}
use Rattle.pad.proofs.line.trim.Goals as goal

pub returns-in-Some-clause-left : goal.returns-in-Some-clause-left
returns-in-Some-clause-left c =
    sym (trimmed_last c.args.spaces c.args.text.now _ c.in-Some.last (search rules) (search rules) (λ k a b. search rules))

use Rattle.rules.specs.Edition.{meant_by}
use Rattle.command.specs.Inner.Codes.{entry_of, entries_from}
use Rattle.command.proofs.CodeLaws.{table_at}
use Rattle.command.proofs.code.entry_of.Goals as goal

-- each array computes to the edition's entries
pub returns : goal.returns
unfolding meant_by entry_of entries_from
returns c = rw c.array_of.ensures (table_at c.args.edition _ _ c.requires)

use Rattle.words.specs.Words.{tabulate}
use Rattle.words.proofs.Laws.{get_d_tabulate}
use Rattle.std.proofs.Common.{rules}
use Rattle.screen.specs.Classes.{class_of}
use Rattle.screen.proofs.class.class.Goals as goal

pub returns : goal.returns
unfolding tabulate class_of
returns c = get_d_tabulate class_of 256 c.args.byte 0 (search rules)

use Rattle.std.proofs.Common.{sym, arith}
use Rattle.telnet.proofs.Laws.{no_verb_rests}
use Rattle.telnet.proofs.command.Goals as goal

pub returns-in-Err : goal.returns-in-Err
returns-in-Err c = rw c.silent-in-Err.ensures (sym (no_verb_rests (λ e. omega arith) (λ e. omega arith) c.in-Err.ensures.1))

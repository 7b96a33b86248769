-- What a call that is refused comes to.
use Rattle.std.specs.Prelude.{Err}
use Rattle.rules.specs.declared.Answer.{Answer}
use Rattle.rules.specs.declared.Session.{Session}
use Rattle.rules.specs.declared.Refusal.{Refusal}

-- the refusal, the session as it came, counts of 0
abbrev pub refused_answer : Session → Refusal → Answer
refused_answer s r = record { session = s; verdict = Err r; taken = 0; written = 0 }

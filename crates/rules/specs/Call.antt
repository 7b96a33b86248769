-- Lists of calls, each of host bytes or of a key with the reply buffer that it is lent, and the commands that they execute.
use Rattle.std.specs.Prelude.{List, [], ◌∷◌, ◌++◌, ℕ, if◌then◌else◌}
use Rattle.rules.specs.declared.Answer.{Answer}
use Rattle.rules.specs.Refusal.{is_taken}
use Rattle.rules.specs.Effect.{Executed}
use Rattle.rules.specs.Session.{State, state}
use Rattle.rules.specs.Operation.{Outcome, host_bytes, host_refusal, host_ran, one_key}

pub data Call : Type 0 where
  host : List ℕ → List ℕ → Call  -- the input, the reply buffer
  key : ℕ → List ℕ → Call  -- the key, the reply buffer

unfoldable pub called : State → Call → Outcome
called s (host input reply) = host_bytes s reply input
called s (key k reply) = one_key s reply k

-- what the next call finds
abbrev pub left : Outcome → State
left o = state o.answer.session o.screen

-- a call's answer is all it returns, and the reply buffer after it
pub record Answered : Type 0 where
  pub answer : Answer
  pub reply : List ℕ

abbrev pub answered : Outcome → Answered
answered o = record { answer = o.answer; reply = o.reply }

unfoldable pub answers_of : State → List Call → List Answered
answers_of s [] = []
answers_of s (c ∷ cs) = answered (called s c) ∷ answers_of (left (called s c)) cs

unfoldable pub state_after : State → List Call → State
state_after s [] = s
state_after s (c ∷ cs) = state_after (left (called s c)) cs

-- "executed": the subnegotiation ends while DET is on, in a byte that is taken, and the command draws no ERROR
unfoldable pub executed_by : State → Call → List Executed
executed_by s (host input reply) = if is_taken (host_refusal s reply) then (host_ran s reply input).executed else []
executed_by s (key k reply) = []

unfoldable pub executed_of : State → List Call → List Executed
executed_of s [] = []
executed_of s (c ∷ cs) = executed_by s c ++ executed_of (left (called s c)) cs

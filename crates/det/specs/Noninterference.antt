-- Demand 3 carried to the code: two chains of results that the contracts of `host_bytes` and `key` allow cannot be told apart.
use Rattle.std.specs.Prelude.{◌≡◌, true, false, List, [], ◌∷◌, map, ℕ}
use Rattle.rules.specs.declared.Session.{Session}
use Rattle.rules.specs.Session.{State, all_printable, screen, state}
use Rattle.rules.specs.Operation.{Outcome, outcome, host_bytes, one_key}
use Rattle.rules.specs.Call.{Call, host, key, left, answered, executed_of}
use Rattle.rules.specs.Noninterference.{none_reaches, Alike, Indistinct}

-- a result, which is an answer with the lent buffers as the call left them, meets the contract of the call's function
abbrev pub Meets : State → Call → Outcome → Type 0
Meets s (host input reply) o = outcome o.answer o.screen o.reply ≡ host_bytes s reply input
Meets s (key code reply) o = outcome o.answer o.screen o.reply ≡ one_key s reply code

-- a result for each call, each call at what the one before left
pub data Chain : State → List Call → List Outcome → Type 0 where
  done : {s : State} → Chain s [] []
  next : {s : State} {c : Call} {o : Outcome} {cs : List Call} {os : List Outcome} → Meets s c o → Chain (left o) cs os
      → Chain s (c ∷ cs) (o ∷ os)

-- what the last call left
abbrev pub end : State → List Outcome → State
end s [] = s
end s (o ∷ os) = end (left o) os

-- The premises are those of demand 3, and that each list of results is a chain for the calls.
abbrev pub CodeNoninterference : Type 0
CodeNoninterference =
    (s : Session) (attrs marks c d : List ℕ) (calls : List Call) (first second : List Outcome)
    → s.frame.suppressed ≡ false
    → all_printable c ≡ true
    → all_printable d ≡ true
    → Alike attrs c d
    → none_reaches (executed_of (state s (screen c attrs marks)) calls) ≡ true
    → Chain (state s (screen c attrs marks)) calls first
    → Chain (state s (screen d attrs marks)) calls second
    → Indistinct attrs c d (map answered first) (map answered second)
    (end (state s (screen c attrs marks)) first) (end (state s (screen d attrs marks)) second)

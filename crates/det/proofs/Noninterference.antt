-- Demand 3 carried to the code, proved: a chain of results that the contracts allow has the rules' answers and end.
use Rattle.std.proofs.Common.{◌≡◌, refl, List, map}
use Rattle.rules.specs.Session.{State}
use Rattle.rules.specs.Operation.{Outcome}
use Rattle.rules.specs.Call.{Call, host, key, called, answered, answers_of, state_after}
use Rattle.rules.proofs.Noninterference.{noninterference}
use Rattle.det.specs.Noninterference.{Meets, Chain, done, next, end, CodeNoninterference}

-- such a result is the one that the rules say
meets_is : (s : State) (c : Call) (o : Outcome) → Meets s c o → o ≡ called s c
unfolding called
meets_is s (host input reply) o h = h
meets_is s (key code reply) o h = h

-- and such a chain has the rules' answers and end
chain_answers : {s : State} {cs : List Call} {os : List Outcome} → Chain s cs os → map answered os ≡ answers_of s cs
unfolding answers_of
chain_answers done = refl
chain_answers {s} (next {c = c} {o = o} h k) = rw (← meets_is s c o h, chain_answers k)

chain_end : {s : State} {cs : List Call} {os : List Outcome} → Chain s cs os → end s os ≡ state_after s cs
unfolding state_after
chain_end done = refl
chain_end {s} (next {c = c} {o = o} h k) = rw (← meets_is s c o h) (chain_end k)

pub code_noninterference : CodeNoninterference
code_noninterference s attrs marks c d calls first second effect clean_first clean_second alike none k q =
    rw (chain_answers k, chain_answers q, chain_end k, chain_end q) (noninterference s attrs marks c d calls effect clean_first clean_second alike none)

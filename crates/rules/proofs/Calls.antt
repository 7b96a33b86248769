-- What a call returns and leaves, taken or refused.
use Rattle.std.proofs.Common.{◌≡◌, refl, List, ℕ, length, take, Ok, Err}
use lib.Seq.{take-append_seam}
use Rattle.rules.specs.declared.Refusal.{Refusal}
use Rattle.rules.specs.Session.{State}
use Rattle.rules.specs.Refusal.{Verdict}
use Rattle.rules.specs.Operation.{Ran, Outcome, running, refusing, answering, unless, taken_of, host_refusal, host_ran, host_bytes, key_refusal, key_ran, one_key}
use Rattle.rules.specs.Call.{Call, host, key, called, left}
use Rattle.rules.proofs.Verdicts.{taken_or_refused}
-- the sentences of document 01 are checked first, so that a wrong rule is refused there
use Rattle.rules.proofs.Causes.{nothing_else}

-- the bytes that a call wrote
abbrev pub replies_in : Outcome → List ℕ
replies_in o = take o.answer.written o.reply

-- what a call leaves is what the bytes do that it counts as taken
pub taken_ran : (s : State) (reply input : List ℕ) → host_refusal s reply ≡ Ok tt →
    let o = host_bytes s reply input in
    let r = running s (take o.answer.taken input) in
    (left o ≡ r.state) × (replies_in o ≡ r.replies)
unfolding host_bytes unless
taken_ran s reply input e = rw e (refl, take-append_seam _ _)

-- ---- one law for both kinds of call

-- the reply buffer that a call lends, its refusal, how much it takes, and what that does
abbrev pub reply_of : Call → List ℕ
reply_of (host input reply) = reply
reply_of (key code reply) = reply

abbrev pub refusal_by : State → Call → Verdict
refusal_by s (host input reply) = host_refusal s reply
refusal_by s (key code reply) = key_refusal s reply code

abbrev pub taken_by : State → Call → ℕ
taken_by s (host input reply) = taken_of s (length reply) input
taken_by s (key code reply) = 1

abbrev pub ran_by : State → Call → Ran
ran_by s (host input reply) = host_ran s reply input
ran_by s (key code reply) = key_ran s code

-- a fact about what a call returns and leaves: where it is taken, and where it is refused
pub called_cases : (P : Outcome → Type 0) (s : State) (c : Call)
    → (refusal_by s c ≡ Ok tt → P (answering (taken_by s c) (ran_by s c) (reply_of c)))
    → ((r : Refusal) → refusal_by s c ≡ Err r → P (refusing r s (reply_of c))) → P (called s c)
unfolding called host_bytes one_key unless
called_cases P s (host input reply) t f = taken_or_refused (host_refusal s reply) (λ e. rw e (t e)) (λ r e. rw e (f r e))
called_cases P s (key code reply) t f = taken_or_refused (key_refusal s reply code) (λ e. rw e (t e)) (λ r e. rw e (f r e))

-- ---- refusals

-- the session, the character and attribute bytes and the reply buffer as they came, and counts of 0
pub record Unchanged (s : State) (c : Call) (o : Outcome) : Type 0 where
  pub state : left o ≡ s
  pub reply : o.reply ≡ reply_of c
  pub taken : o.answer.taken ≡ 0
  pub written : o.answer.written ≡ 0

-- whatever the reason
pub refused_unchanged : (s : State) (c : Call) → ((called s c).answer.verdict ≡ Ok tt → ⊥) → Unchanged s c (called s c)
refused_unchanged s c =
    called_cases (λ o. (o.answer.verdict ≡ Ok tt → ⊥) → Unchanged s c o) s c (λ t e. absurd (e refl))
    (λ r f e. record { state = refl; reply = refl; taken = refl; written = refl })

-- Laws of the three calls.
use Rattle.std.proofs.Common.{◌≡◌, refl, sym, ap, ◌∙◌, true, false, List, [], ℕ, ◌≤◌, arith, ltb-true, ltb-false, lt-ltb, le-ltb, eq-eqb, ne_eqb, leb, ltb, length, Err}
use borrow.Author.Tests.{lt-leb}
use Rattle.words.proofs.Laws.{true_or_false, and_right, and_false}
use Rattle.rules.specs.declared.Session.{Session}
use Rattle.rules.specs.declared.Frame.{Frame}
use Rattle.rules.specs.declared.Answer.{Answer}
use Rattle.rules.specs.declared.Refusal.{Refusal}
use Rattle.rules.specs.declared.Key.TheVariants.{Meaningless}
use Rattle.rules.specs.Session.{Screen, State, line_takes_keys, fresh_frame, state}
use Rattle.rules.specs.Edition.{edition_of}
use Rattle.rules.specs.Refusal.{number_of, told_number, verdict, open_tests}
use Rattle.rules.proofs.Verdicts.{taken_or_refused}
use Rattle.rules.specs.Key.{key_of}
use Rattle.rules.specs.Pad.{takes_key}
use Rattle.rules.specs.Operation.{Outcome, outcome, unless, host_refusal, host_bytes, key_refusal, one_key, opened}
use Rattle.layout.specs.Layout.{session_length, is_session, encoded, decoded}
use Rattle.det_abi.specs.Calls.{Result, result_of, told, no_session, provided, open_call, host_call, key_call, key_byte, Gives}
use Rattle.layout.proofs.LayoutLaws.{encoded_decoded}

-- ---- keys that are no byte

-- they have no meaning
no_meaning : (k : ℕ) → 256 ≤ k → key_of k ≡ Meaningless
unfolding key_of
no_meaning k h =
    rw (
      and_false (leb 32 k) (leb k 126) (lt-leb k 126 (omega arith)),
      ne_eqb k 8 (λ e. omega arith),
      ne_eqb k 9 (λ e. omega arith),
      ne_eqb k 13 (λ e. omega arith),
      ne_eqb k 127 (λ e. omega arith),
      and_false (leb 128 k) (leb k 143) (lt-leb k 143 (omega arith)),
    )

-- nor has 255, which stands for them
capped : (k : ℕ) → key_of (key_byte k) ≡ key_of k
unfolding key_of
capped k = true_or_false (ltb k 256) (λ t. rw t) (λ f. rw f (sym (no_meaning k (ltb-false k 256 f))))

-- the edit line takes neither
line_capped : (f : Frame) (k : ℕ) → takes_key f (key_byte k) ≡ takes_key f k
line_capped f k =
    true_or_false (ltb k 256) (λ t. rw t)
    (λ l. rw (l, le-ltb k 128 (omega (arith, ltb-false k 256 l))))

-- and one that it takes is a byte
taken_byte : (f : Frame) (k : ℕ) → takes_key f k ≡ true → key_byte k ≡ k
taken_byte f k t = rw (lt-ltb k 256 (omega (arith, ltb-true k 128 (and_right (line_takes_keys f) _ t))))

key_capped : (s : State) (reply : List ℕ) (k : ℕ) → one_key s reply (key_byte k) ≡ one_key s reply k
unfolding one_key
key_capped s reply k =
    let f = s.session.frame in
    true_or_false (takes_key f k) (λ t. rw (taken_byte f k t)) (λ l. rw (line_capped f k, l, capped k))

-- ---- what a call returns and leaves

-- an outcome whose answer is given
returns_told : {o : Outcome} {a : Answer} {number : ℕ} {session : List ℕ} {taken written : ℕ} {b : Screen} {reply : List ℕ}
    → outcome a b reply ≡ o → Gives a number session taken written → result_of number session taken written b reply ≡ told o
returns_told {b = b} {reply = reply} h g =
    (λ i. result_of (g.number_is i) (g.session_is i) (g.taken_is i) (g.written_is i) b reply) ∙ ap (λ (o : Outcome). told o) h

-- bytes that are no session
returns_none : {number taken written : ℕ} {session : List ℕ} {b : Screen} {reply : List ℕ} → (number ≡ 255) × (taken ≡ 0) × (written ≡ 0)
    → result_of number session taken written b reply ≡ no_session session b reply
returns_none h = rw (h.0, h.1, h.2)

-- open: no place for a session, or its answer told
module _ (m n named : ℕ) (session : List ℕ) (b : Screen) where
  pub open_none : (length session ≡ session_length → ⊥) → result_of 255 session 0 0 b [] ≡ open_call m n named session b
  unfolding open_call provided
  open_none f = rw (ne_eqb (length session) session_length f)

  opened_counts : let a = (opened m n named b).answer in (a.taken ≡ 0) × (a.written ≡ 0)
  unfolding opened unless
  opened_counts =
      taken_or_refused (verdict (open_tests (fresh_frame m n (edition_of named)) named b)) (λ t. rw t (refl, refl)) (λ r f. rw f (refl, refl))

  pub open_done : {a : Answer} {number : ℕ} {session' : List ℕ} {b' : Screen} → length session ≡ session_length
      → outcome a b' [] ≡ opened m n named b → number ≡ told_number a.verdict → session' ≡ encoded a.session
      → result_of number session' 0 0 b' [] ≡ open_call m n named session b
  unfolding open_call provided
  open_done {a} t s p q =
      let same : a ≡ (opened m n named b).answer = ap (λ (o : Outcome). o.answer) s in
      rw (eq-eqb (length session) session_length t) (returns_told s (record {
        number_is = p;
        session_is = q;
        taken_is = sym (rw same opened_counts.0);
        written_is = sym (rw same opened_counts.1);
      }))

-- host bytes and a key: no session, or the answer given
module _ (session : List ℕ) (b : Screen) (reply : List ℕ) where
  module _ {number taken written : ℕ} (none : false ≡ is_session session) (h : (number ≡ 255) × (taken ≡ 0) × (written ≡ 0)) where
    pub host_none : (input : List ℕ) → result_of number session taken written b reply ≡ host_call session input b reply
    unfolding host_call provided
    host_none input = rw (← none) (returns_none h)

    pub key_none : (key : ℕ) → result_of number session taken written b reply ≡ key_call session key b reply
    unfolding key_call provided
    key_none key = rw (← none) (returns_none h)

  module _ {s : Session} {a : Answer} {number : ℕ} {session' : List ℕ} {taken written : ℕ} {b' : Screen} {reply' : List ℕ} (found : true ≡ is_session session)
      (d : s ≡ decoded session) (g : Gives a number session' taken written) where
    pub host_done : (input : List ℕ) → outcome a b' reply' ≡ host_bytes (state s b) reply input
        → result_of number session' taken written b' reply' ≡ host_call session input b reply
    unfolding host_call provided
    host_done input h = rw (← found) (returns_told (rw d at h) g)

    pub key_done : (key : ℕ) {code : ℕ} → code ≡ key_byte key → outcome a b' reply' ≡ one_key (state s b) reply code
        → result_of number session' taken written b' reply' ≡ key_call session key b reply
    unfolding key_call provided
    key_done key c h = rw (← found) (returns_told (rw (d, c, key_capped _ reply key) at h) g)

-- ---- a call that is refused leaves the session's bytes, and all else, as they came

abbrev refused_call : Refusal → List ℕ → Screen → List ℕ → Result
refused_call r session b reply = result_of (number_of r) session 0 0 b reply

module _ (session : List ℕ) (known : is_session session ≡ true) (b : Screen) (reply : List ℕ) {why : Refusal} where
  pub host_refused : (input : List ℕ) → host_refusal (state (decoded session) b) reply ≡ Err why
      → host_call session input b reply ≡ refused_call why session b reply
  unfolding host_call provided host_bytes unless
  host_refused input f = rw (known, f, encoded_decoded session known)

  pub key_refused : (key : ℕ) → key_refusal (state (decoded session) b) reply key ≡ Err why
      → key_call session key b reply ≡ refused_call why session b reply
  unfolding key_call provided one_key unless
  key_refused key f = rw (known, f, encoded_decoded session known)

-- Demand 3, noninterference, proved: from one effect to lists of host bytes, calls and lists of calls.
use Rattle.std.proofs.Common.{◌≡◌, refl, sym, ap, ap₂, ◌∙◌, true, false, not, ◌&&◌, List, [], ◌∷◌, ◌++◌, ℕ, suc, ◌-◌, ◌<◌, arith, leb, length, get_or, take, Ok}
use Rattle.screen.specs.Attributes.{protected_at}
use Rattle.words.proofs.Laws.{either, true_or_false, and_left, and_right, both, get_d-within}
use Rattle.rules.specs.declared.Reader.{Reader}
use Rattle.rules.specs.declared.Pad.{Pad}
use Rattle.rules.specs.declared.Session.{Session}
use Rattle.rules.specs.Session.{State, printable, all_printable, reply_room, screen, state, view_of}
use Rattle.rules.specs.Refusal.{Verdict, is_taken, size_tests, state_tests}
use Rattle.rules.specs.Effect.{Effect, Executed, changed_all, marks_after}
use Rattle.rules.specs.Command.{reaches_past}
use Rattle.rules.specs.Cursor.{cursor_guarded}
use Rattle.rules.specs.Pad.{takes_key}
use Rattle.rules.specs.Key.{key_of, needs_of, given, key_tests}
use Rattle.rules.specs.Operation.{Ran, Outcome, host_byte, applied, running, answering, unless, taken_of, host_bytes, press_effect, key_refusal, one_key}
use Rattle.rules.specs.Call.{Call, host, key, called, left, answered, answers_of, state_after, executed_by, executed_of}
use Rattle.rules.specs.Noninterference.{none_reaches, Kept, Noninterference}
use Rattle.rules.proofs.Verdicts.{taken_or_refused}
use Rattle.rules.proofs.Characters.{printable_at}
use Rattle.rules.proofs.Refusals.{all_pass}
use Rattle.rules.proofs.Safe.{Twins, still_twins, same_reply}
use Rattle.rules.proofs.SafeEffects.{SafeEffect, safe_happening, safe_key, safe_typed}

none_append : (xs ys : List Executed) → none_reaches (xs ++ ys) ≡ true → (none_reaches xs ≡ true) × (none_reaches ys ≡ true)
unfolding none_reaches
none_append [] ys h = (refl, h)
none_append (x ∷ xs) ys h =
    let safe = not (reaches_past x.row x.held) in
    let rest = none_append xs ys (and_right safe _ h) in
    (both safe _ (and_left safe _ h) rest.0, rest.1)

-- protected characters stay printable
kept_printable : {attrs x₀ x : List ℕ} → Kept attrs x₀ x → all_printable x₀ ≡ true → (i : ℕ) → i < length x → protected_at attrs i ≡ true
    → printable (get_or x i 0) ≡ true
kept_printable {x₀ = x₀} k e i h p =
    let l : i < length x₀ = omega (arith, k.long) in
    rw (k.protected i l p, get_d-within x₀ i 0 32 l) (printable_at x₀ e i)

same_printable : (c d : List ℕ) → length c ≡ length d → ((i : ℕ) → i < length c → printable (get_or c i 0) ≡ printable (get_or d i 0))
    → all_printable c ≡ all_printable d
unfolding all_printable
same_printable [] [] l h = refl
same_printable [] (y ∷ ys) l h = absurd (omega arith)
same_printable (x ∷ xs) [] l h = absurd (omega arith)
same_printable (x ∷ xs) (y ∷ ys) l h =
    ap₂ ◌&&◌ (h 0 (omega arith)) (same_printable xs ys (omega arith) (λ i k. h (suc i) (omega arith)))

-- a key that is taken, and that the edit line does not take, has passed the test on the guard
not_guarded : (s : State) (reply : List ℕ) (k : ℕ) → takes_key s.session.frame k ≡ false → is_taken (key_refusal s reply k) ≡ true
    → given (needs_of (key_of k)).unguarded (not (cursor_guarded (view_of s))) ≡ true
unfolding size_tests state_tests key_tests
not_guarded s reply k off e = let passed = all_pass _ (rw off at e) in search

-- so what a key does is safe
safe_press : (s : State) (reply : List ℕ) (k : ℕ) → s.session.frame.suppressed ≡ false → is_taken (key_refusal s reply k) ≡ true
    → SafeEffect s.screen.attrs (press_effect s k)
safe_press s reply k protecting e =
    either (SafeEffect s.screen.attrs) (takes_key s.session.frame k) (λ t. safe_typed (view_of s) protecting s.session.pad k)
    (λ off. safe_key (view_of s) protecting (key_of k) (not_guarded s reply k off e))

-- what host bytes do with so much reply room
abbrev ran : State → ℕ → List ℕ → Ran
ran s free bs = running s (take (taken_of s free bs) bs)

-- two runs, begun with the attribute bytes attrs and the characters c₀ and d₀
module _ (attrs c₀ d₀ : List ℕ) where
  -- where they stand: one session with protection in effect, those attribute bytes, the same marks, and characters that are twins
  data TwinStates : State → State → Type 0 where
    twins : (s : Session) (now marks c d : List ℕ) → now ≡ attrs → s.frame.suppressed ≡ false → Twins attrs c₀ d₀ c d
        → TwinStates (state s (screen c now marks)) (state s (screen d now marks))

  parts : {s t : State} → TwinStates s t
      → (s.session ≡ t.session) × (s.screen.attrs ≡ attrs) × (t.screen.attrs ≡ attrs) × (s.screen.marks ≡ t.screen.marks)
      × Twins attrs c₀ d₀ s.screen.chars t.screen.chars
  parts (twins s now marks c d a p w) = (refl, a, a, refl, w)

  -- what n bytes have done in the one and m in the other
  record TwinRuns (n m : ℕ) (r q : Ran) : Type 0 where
    taken : n ≡ m
    replies : r.replies ≡ q.replies
    states : TwinStates r.state q.state

  record TwinOutcomes (o q : Outcome) : Type 0 where
    answers : answered o ≡ answered q
    states : TwinStates (left o) (left q)

  -- ---- host bytes

  applied_twins : {s t : State} {r : Reader} {p : Pad} {e : Effect} → TwinStates s t → SafeEffect s.screen.attrs e
      → TwinRuns 1 1 (applied s r p e) (applied t r p e)
  applied_twins {e = e} (twins s now marks c d a p w) f =
      let safe : SafeEffect attrs e = rw a at f in
      record {
        taken = refl;
        replies = rw a (same_reply w.alike marks e.reply safe.reply);
        states = twins _ _ (marks_after marks e.marking) (changed_all c now e.changes) (changed_all d now e.changes) safe.attributes safe.protecting
            (rw a (still_twins e.changes safe.changes w));
      }

  taking_twins : (bs : List ℕ) (free : ℕ) {s t : State} → TwinStates s t → none_reaches (ran s free bs).executed ≡ true
      → TwinRuns (taken_of s free bs) (taken_of t free bs) (ran s free bs) (ran t free bs)
  unfolding taken_of running host_byte
  taking_twins [] free start x = record { taken = refl; replies = refl; states = start }
  taking_twins (b ∷ bs) free (twins s now marks c d a p w) x =
      let start = twins s now marks c d a p w in
      let said = (host_byte (state s (screen c now marks)) b).replies in
      true_or_false (leb (reply_room s.frame) free)
      (λ r.
      let none = none_append (host_byte (state s (screen c now marks)) b).executed _ (rw r at x) in
      let one = applied_twins start (safe_happening _ p s.reader s.pad _ none.0) in
      let rest = taking_twins bs (free - length said) one.states none.1 in
      rw (r, ← one.replies) (record { taken = ap suc rest.taken; replies = ap (λ l. said ++ l) rest.replies; states = rest.states }))
      (λ r. rw r (record { taken = refl; replies = refl; states = start }))

  -- ---- a call

  -- refused, or else done
  unless_twins : {s t : State} {n m : ℕ} {f g : Ran} (v : Verdict) (reply : List ℕ) → TwinStates s t → (v ≡ Ok tt → TwinRuns n m f g)
      → TwinOutcomes (unless v s reply (answering n f reply)) (unless v t reply (answering m g reply))
  unfolding unless
  unless_twins v reply start done =
      taken_or_refused v
      (λ e. let o = done e in rw e (record { answers = rw (o.taken, o.replies, (parts o.states).0); states = o.states }))
      (λ r e. rw e (record { answers = rw (parts start).0; states = start }))

  module _ (clean_first : all_printable c₀ ≡ true) (clean_second : all_printable d₀ ≡ true) where
    clean_twins : (c d : List ℕ) → Twins attrs c₀ d₀ c d → all_printable c ≡ all_printable d
    clean_twins c d w =
        same_printable c d w.alike.long
        (λ i h. true_or_false (protected_at attrs i)
        (λ p. kept_printable w.first clean_first i h p ∙ sym (kept_printable w.second clean_second i (omega arith) p))
        (λ u. ap printable (w.alike.unprotected i h u)))

    -- a call is refused in both runs or in neither
    same_tests : {s t : State} (reply : List ℕ) → TwinStates s t
        → (size_tests t.session.frame t.screen ≡ size_tests s.session.frame s.screen)
        × (state_tests t.session t.screen reply ≡ state_tests s.session s.screen reply)
    unfolding size_tests state_tests
    same_tests reply (twins s now marks c d a p w) = (rw w.alike.long, rw (clean_twins c d w))

    called_twins : (k : Call) {s t : State} → TwinStates s t → none_reaches (executed_by s k) ≡ true → TwinOutcomes (called s k) (called t k)
    unfolding called executed_by host_bytes one_key
    called_twins (host input reply) start x =
        let e = same_tests reply start in
        rw (e.0, e.1) (unless_twins _ reply start (λ r. taking_twins input (length reply) start (rw r at x)))
    called_twins (key k reply) (twins s now marks c d a p w) x =
        let start = twins s now marks c d a p w in
        let e = same_tests reply start in
        rw (e.0, e.1) (unless_twins _ reply start (λ r. applied_twins start (safe_press _ reply k p (ap is_taken r))))

    -- ---- a list of calls

    calls_twins : (ks : List Call) {s t : State} → TwinStates s t → none_reaches (executed_of s ks) ≡ true
        → (answers_of s ks ≡ answers_of t ks) × TwinStates (state_after s ks) (state_after t ks)
    unfolding answers_of state_after executed_of
    calls_twins [] start x = (refl, start)
    calls_twins (k ∷ ks) {s} start x =
        let none = none_append (executed_by s k) _ x in
        let one = called_twins k start none.0 in
        let rest = calls_twins ks one.states none.1 in
        (ap₂ ◌∷◌ one.answers rest.0, rest.1)

pub noninterference : Noninterference
noninterference s attrs marks c d calls protecting clean_first clean_second alike none =
    let run = calls_twins attrs c d clean_first clean_second calls (twins s attrs marks c d refl protecting (search)) none in
    let end = parts attrs c d run.1 in
    record {
      answers = run.0;
      sessions = end.0;
      attributes_first = end.1;
      attributes_second = end.2;
      marks = end.3;
      alike = end.4.alike;
      kept_first = end.4.first;
      kept_second = end.4.second;
    }

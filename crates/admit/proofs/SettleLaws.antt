-- Laws of what the operations settle: a call that is refused, one that is taken, and an open.
use Rattle.std.proofs.Common.{eqb-true, ◌≡◌, sym, ap, true, List, [], ℕ, ◌*◌, ◌≤◌, eqb, length, Ok, Err}
use Rattle.edit.specs.Edits.{erased, filled}
use Rattle.words.proofs.Laws.{and_left, and_right}
use Rattle.edit.proofs.EditLaws.{all_spaces, all_zeros}
use Rattle.rules.specs.declared.Refusal.{Refusal}
use Rattle.rules.specs.declared.Edition.{Edition}
use Rattle.rules.specs.declared.Edition.TheVariants.{September}
use Rattle.rules.specs.declared.Session.{Session}
use Rattle.rules.specs.declared.Answer.{Answer}
use Rattle.rules.specs.Session.{Screen, State, fresh_frame, fresh, screen}
use Rattle.rules.specs.Edition.{edition_of}
use Rattle.rules.specs.Refusal.{Verdict, is_taken, verdict, open_tests}
use Rattle.rules.specs.Operation.{Outcome, outcome, unless, opened}
use Rattle.rules.proofs.Refusals.{all_pass}
use Rattle.admit.specs.Refused.{refused_answer}
use Rattle.admit.proofs.RefuseLaws.{bounds}

-- ---- refused, or done

module _ (s : State) (reply : List ℕ) (done : Outcome) {v : Verdict} where
  pub settled_refused : {why : Refusal} {a : Answer} → Err why ≡ v → a ≡ refused_answer s.session why → outcome a s.screen reply ≡ unless v s reply done
  unfolding unless
  settled_refused e q = rw (← e, q)

  pub settled_done : {o : Outcome} → v ≡ Ok tt → o ≡ done → o ≡ unless v s reply done
  unfolding unless
  settled_done e h = rw e h

-- ---- open

module _ (m n named : ℕ) (b : Screen) where
  pub open_refused : {why : Refusal} {s : Session} {a : Answer} → verdict (open_tests (fresh_frame m n (edition_of named)) named b) ≡ Err why
      → s ≡ fresh 0 0 September → a ≡ refused_answer s why → outcome a b [] ≡ opened m n named b
  unfolding opened
  open_refused e p q = settled_refused _ _ _ (sym e) (rw (← p) q)

  module _ (e : verdict (open_tests (fresh_frame m n (edition_of named)) named b) ≡ Ok tt) where
    -- the sizes and the lengths, as refusals 1 and 2 ask
    pub open_sizes : (m ≤ 132) × (n ≤ 64) × (length b.chars ≡ n * m) × (length b.attrs ≡ n * m) × (length b.marks ≡ n * m)
    unfolding open_tests
    open_sizes =
        let passed = all_pass (open_tests (fresh_frame m n (edition_of named)) named b) (ap is_taken e) in
        let sizes = bounds m n passed.0 in
        let c = and_left (eqb (length b.chars) (n * m)) _ passed.1.1.0 in
        let both = and_right (eqb (length b.chars) (n * m)) _ passed.1.1.0 in
        let a = and_left (eqb (length b.attrs) (n * m)) (eqb (length b.marks) (n * m)) both in
        let k = and_right (eqb (length b.attrs) (n * m)) (eqb (length b.marks) (n * m)) both in
        (sizes.0, sizes.1, eqb-true _ _ c, eqb-true _ _ a, eqb-true _ _ k)

    pub open_done : {edition : Edition} {s : Session} {chars attrs marks : List ℕ} → edition ≡ edition_of named → s ≡ fresh m n edition
        → chars ≡ erased true b.chars b.attrs 0 (length b.chars) → attrs ≡ filled 0 (length b.attrs) 0 b.attrs
        → marks ≡ filled 0 (length b.marks) 0 b.marks
        → outcome (record { session = s; verdict = Ok tt; taken = 0; written = 0 }) (screen chars attrs marks) [] ≡ opened m n named b
    unfolding opened
    open_done i p c q k =
        settled_done _ _ _ e
        (rw (p, i, c, q, k, all_spaces b.attrs b.chars, all_zeros b.attrs, all_zeros b.marks, open_sizes.2, open_sizes.3, open_sizes.4))

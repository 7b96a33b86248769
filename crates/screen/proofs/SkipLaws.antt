-- Laws of scans that go past many cells at once.
use Rattle.std.proofs.Common.{◌≡◌, refl, ◌∙◌, Bool, true, false, not, List, ℕ, ◌+◌, ◌-◌, ◌≤◌, ◌<◌, arith, eqb, length, get_or}
use Rattle.std.proofs.Common.{inl, inr}
use Rattle.std.proofs.lemmas.Bool.{or_cases}
use Rattle.screen.specs.Words.{first_of, last_of}
use Rattle.screen.specs.Attributes.{protection, protected_at}
use Rattle.screen.specs.Fields.{starts_at, opens_at}
use Rattle.screen.specs.Scans.{is_target}
use Rattle.screen.specs.Inner.Skips.{NoneIn, passes_protected, passes_alike, passed}
use Rattle.screen.specs.declared.scan.Target.{Target}
use Rattle.screen.specs.declared.scan.Target.TheVariants.{FieldStart, UnprotectedStart, Open}
use Rattle.words.proofs.Laws.{less_or_not, not_both, and_false, get_d-within}
use Rattle.screen.proofs.WordLaws.{first_skips, last_skips}
use Rattle.screen.proofs.FieldLaws.{starts_after}

module _ (attrs : List ℕ) (i : ℕ) (some : 0 < i) (within : i < length attrs) where
  -- the two attribute bytes, as they are read
  alike : eqb (get_or attrs (i - 1) 0) (get_or attrs i 0) ≡ true → starts_at attrs i ≡ false
  alike e = starts_after attrs i (λ z. omega arith) ∙ rw (get_d-within attrs (i - 1) 8 0 (omega arith), get_d-within attrs i 8 0 within, e)

  shut : eqb (protection (get_or attrs i 0)) 1 ≡ true → protected_at attrs i ≡ true
  unfolding protected_at
  shut e = rw (get_d-within attrs i 8 0 within) e

  -- a cell that is passed is not what is looked for
  pub passed_over : (t : Target) → passed (passes_protected t) (passes_alike t) (get_or attrs (i - 1) 0) (get_or attrs i 0) ≡ true
      → is_target attrs t i ≡ false
  unfolding is_target opens_at passes_protected passes_alike
  passed_over FieldStart e = alike e
  passed_over UnprotectedStart e =
      elim (or_cases (eqb (protection (get_or attrs i 0)) 1) (eqb (get_or attrs (i - 1) 0) (get_or attrs i 0)) e) [
        | inl p ↦ and_false (starts_at attrs i) (not (protected_at attrs i)) (rw (shut p))
        | inr p ↦ rw (alike p)
      ]
  passed_over (Open true) e = not_both false e refl
  passed_over (Open false) e =
      elim (or_cases (eqb (protection (get_or attrs i 0)) 1) false e) [ inl p ↦ rw (shut p) | inr p ↦ not_both false p refl ]

-- n cells from `cell` on that are passed
pub record AllPassed (attrs : List ℕ) (protected alike : Bool) (cell n : ℕ) : Type 0 where
  pub each : (k : ℕ) → cell ≤ k → k < cell + n → passed protected alike (get_or attrs (k - 1) 0) (get_or attrs k 0) ≡ true

module _ {attrs : List ℕ} {t : Target} where
  pub passed_none_in : {protected alike : Bool} {cell n : ℕ} → protected ≡ passes_protected t → alike ≡ passes_alike t → 0 < cell
      → cell + n ≤ length attrs → AllPassed attrs protected alike cell n → NoneIn attrs t cell (cell + n)
  passed_none_in p a s w each = record {
    none = λ k h l. passed_over attrs k (omega arith) (omega arith) t (rw (← p, ← a) (each.each k h l));
  }

  pub none_there : (i : ℕ) → NoneIn attrs t i i
  none_there i = record { none = λ k a b. absurd (omega arith) }

  -- the cells of the one and of the other
  pub none_then : {a b c : ℕ} → NoneIn attrs t a b → NoneIn attrs t b c → NoneIn attrs t a c
  none_then {a} {b} {c} p q = record { none = λ k h l. less_or_not k b (p.none k h) (λ m. q.none k m l) }

  -- a scan goes past them
  pub first_past_none : (none end : ℕ) {i j : ℕ} → NoneIn attrs t i j → i ≤ j → j ≤ end
      → first_of (is_target attrs t) none i (end - i) ≡ first_of (is_target attrs t) none j (end - j)
  first_past_none none end {i} {j} p a b =
      let e : i + (j - i) ≡ j = omega arith in
      rw e at (first_skips (is_target attrs t) none (j - i) i end (omega arith) (λ k h l. p.none k h (omega arith)))

  pub last_past_none : (none : ℕ) {i j : ℕ} → NoneIn attrs t i j → i ≤ j → last_of (is_target attrs t) none j ≡ last_of (is_target attrs t) none i
  last_past_none none {i} {j} p a =
      let e : i + (j - i) ≡ j = omega arith in
      rw e at (last_skips (is_target attrs t) none (j - i) i (λ k h l. p.none k h (omega arith)))

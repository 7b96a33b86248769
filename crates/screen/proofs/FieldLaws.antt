-- Laws of fields and edit spans.
use Rattle.std.proofs.Common.{◌≡◌, refl, sym, ◌∙◌, Bool, true, false, not, List, ℕ, zero, suc, ◌+◌, ◌-◌, ◌≤◌, ◌<◌, min, arith, eqb-true, eq-eqb, ne_eqb, lt-ltb, le-ltb, eqb, length}
use mathlib.Core.Bool.{and-false}
use borrow.Author.Tests.{not-true, not-false}
use lib.ListN.{get_or-eq_default}
use Rattle.screen.specs.Words.{first_of, some_in}
use Rattle.screen.specs.Attributes.{attribute_at, protected_at, guarded_at}
use Rattle.screen.specs.Fields.{Run, Field, starts_at, opens_at, first_from, field_start, field_end, span_end}
use Rattle.screen.specs.Scans.{next_open}
use Rattle.words.proofs.Laws.{less_or_not, true_or_false, not_both, and_right}
use Rattle.screen.proofs.WordLaws.{first_hit, first_skips, first_passes, last_passes, first_past, last_past, first_above, first_end, first_below, last_below}

module _ (attrs : List ℕ) where
  -- ---- protection

  -- equal attribute bytes, equal protection
  pub protected_as : (i j : ℕ) → attribute_at attrs i ≡ attribute_at attrs j → protected_at attrs i ≡ protected_at attrs j
  unfolding protected_at
  protected_as i j e = rw e

  -- only a cell of the screen is unprotected
  pub open_within : (i : ℕ) → protected_at attrs i ≡ false → i < length attrs
  unfolding protected_at
  open_within i u =
      less_or_not i (length attrs) (λ h. h) (λ h. not_both true refl (rw (get_or-eq_default attrs 8 {n = i} h) at u))

  -- ---- fields

  -- does a field start at a cell that is not the first?
  pub starts_after : (i : ℕ) → (i ≡ 0 → ⊥) → starts_at attrs i ≡ not (eqb (attribute_at attrs (i - 1)) (attribute_at attrs i))
  unfolding starts_at
  starts_after zero h = absurd (h refl)
  starts_after (suc i) h = let k : suc i - 1 ≡ i = omega arith in rw k

  -- a cell lies in its field
  pub start_le : (i : ℕ) → field_start attrs i ≤ i
  unfolding field_start
  start_le i = omega (arith, last_below (starts_at attrs) 0 (min (i + 1) (length attrs)) (i + 1) (omega arith) (omega arith))

  pub end_gt : (i : ℕ) → i < length attrs → i < field_end attrs i
  unfolding field_end
  end_gt i h =
      omega (arith, first_above (starts_at attrs) (length attrs) (i + 1) (length attrs - (i + 1)) (i + 1) (omega arith) (omega arith))

  -- a field ends by the end of the screen
  pub end_le : (i : ℕ) → field_end attrs i ≤ length attrs
  unfolding field_end
  end_le i =
      let n = length attrs in
      less_or_not i n
      (λ h. omega (arith, first_below (starts_at attrs) n (i + 1) (n - (i + 1)) (n + 1) (omega arith) (omega arith)))
      (λ h. omega (arith, first_end (starts_at attrs) n (i + 1) n (omega arith)))

  -- a field starts where it starts, and the next one where it ends
  pub start_starts : (i : ℕ) → starts_at attrs (field_start attrs i) ≡ true
  unfolding field_start starts_at
  start_starts i = last_passes (starts_at attrs) 0 (min (i + 1) (length attrs)) refl

  pub end_starts : (i : ℕ) → field_end attrs i < length attrs → starts_at attrs (field_end attrs i) ≡ true
  unfolding field_end
  end_starts i h = first_passes (starts_at attrs) (length attrs) (i + 1) (length attrs - (i + 1)) h

  -- cells with no start between them have one attribute byte
  joined : (i j : ℕ) → i ≤ j → ((k : ℕ) → i < k → k ≤ j → starts_at attrs k ≡ false) → attribute_at attrs j ≡ attribute_at attrs i
  unfolding starts_at
  joined i zero h s = let z : i ≡ 0 = omega arith in rw z
  joined i (suc j) h s =
      less_or_not i (suc j)
      (λ l. sym (eqb-true _ _ (not-false _ (s (suc j) l (omega arith)))) ∙ joined i j (omega arith) (λ k p q. s k p (omega arith)))
      (λ l. let z : i ≡ suc j = omega arith in rw z)

  -- no other field starts or opens before a field's end
  none_starts : (i k : ℕ) → i < k → k < field_end attrs i → starts_at attrs k ≡ false
  unfolding field_end
  none_starts i k a b = first_past (starts_at attrs) (length attrs) (i + 1) (length attrs - (i + 1)) k (omega arith) (omega arith) b

  pub none_opens : (i k : ℕ) → i < k → k < field_end attrs i → opens_at attrs k ≡ false
  unfolding opens_at
  none_opens i k a b = rw (none_starts i k a b)

  -- the cells of a field have one attribute byte: those from i on, those up to i, all
  pub rest_equal : (i j : ℕ) → i ≤ j → j < field_end attrs i → attribute_at attrs j ≡ attribute_at attrs i
  rest_equal i j lo hi = joined i j lo (λ k p q. none_starts i k p (omega arith))

  head_equal : (i j : ℕ) → i < length attrs → field_start attrs i ≤ j → j ≤ i → attribute_at attrs j ≡ attribute_at attrs (field_start attrs i)
  unfolding field_start
  head_equal i j h lo hi =
      joined (field_start attrs i) j lo (λ k p q. last_past (starts_at attrs) 0 (min (i + 1) (length attrs)) k p (omega arith))

  pub field_equal : (i j : ℕ) → i < length attrs → field_start attrs i ≤ j → j < field_end attrs i → attribute_at attrs j ≡ attribute_at attrs i
  field_equal i j h lo hi =
      less_or_not j i (λ l. head_equal i j h lo (omega arith) ∙ sym (head_equal i i h (start_le i) (omega arith)))
      (λ l. rest_equal i j l hi)

  -- every run with a cell lies in the cell's field
  pub run_in_field : (s e i : ℕ) → Run attrs s e → s ≤ i → i < e → (field_start attrs i ≤ s) × (e ≤ field_end attrs i)
  run_in_field s e i r lo hi = (
    less_or_not s (field_start attrs i) (λ l. not_both _ (start_starts i) (inside _ l (omega (arith, start_le i)))) (λ l. l),
    less_or_not (field_end attrs i) e
        (λ l. not_both _ (end_starts i (omega (arith, r.within))) (inside _ (omega (arith, end_gt i (omega (arith, r.within)))) l))
        (λ l. l),
  )
    where
      inside : (k : ℕ) → s < k → k < e → starts_at attrs k ≡ false
      inside k lo hi =
          starts_after k (λ z. omega arith)
          ∙ rw (eq-eqb _ _ (r.equal (k - 1) (omega arith) (omega arith) ∙ sym (r.equal k (omega arith) hi)))

  -- the scans give the fields, and nothing else
  pub field_is : (i : ℕ) → i < length attrs → Field attrs (field_start attrs i) (field_end attrs i)
  field_is i h =
      let lo = start_le i in
      let hi = end_gt i h in
      record {
        run = record {
          some = omega arith;
          within = end_le i;
          equal = λ j p q. field_equal i j h p q ∙ sym (field_equal i _ h (omega arith) (omega arith));
        };
        longest = λ s e r p q. let b = run_in_field s e i r (omega arith) (omega arith) in (omega arith, omega arith);
      }

  pub field_only : (s e i : ℕ) → Field attrs s e → s ≤ i → i < e → (s ≡ field_start attrs i) × (e ≡ field_end attrs i)
  field_only s e i f lo hi =
      let b = run_in_field s e i f.run lo hi in
      let g = f.longest _ _ (field_is i (omega (arith, f.run.within))).run b.0 b.1 in
      (sym g.0, sym g.1)

  -- ---- unprotected fields and spans

  -- the edit span has the cursor's cell, and ends by the end of the line
  pub span_bounds : (suppressed : Bool) (at stop : ℕ) → at < length attrs → at < stop
      → (at < span_end suppressed attrs at stop) × (span_end suppressed attrs at stop ≤ stop)
  unfolding span_end
  span_bounds true at stop h l = (l, omega arith)
  span_bounds false at stop h l = (omega (arith, end_gt at h), omega arith)

  -- a span that begins on an unprotected cell is unprotected throughout, and so is the field of such a cell
  pub span_open : (at stop j : ℕ) → protected_at attrs at ≡ false → at ≤ j → j < span_end false attrs at stop → protected_at attrs j ≡ false
  unfolding span_end
  span_open at stop j u lo hi = protected_as j at (rest_equal at j lo (omega arith)) ∙ u

  pub field_open : (i j : ℕ) → protected_at attrs i ≡ false → field_start attrs i ≤ j → j < field_end attrs i → protected_at attrs j ≡ false
  field_open i j u lo hi = protected_as j i (field_equal i j (open_within i u) lo hi) ∙ u

  -- what is guarded is guarded as a whole: from a cell that is not, a scan for one that is goes past the rest of its field
  pub first_past_field : (suppressed : Bool) (none i : ℕ) → i < length attrs → guarded_at suppressed attrs i ≡ false
      → first_from (guarded_at suppressed attrs) attrs i none ≡ first_from (guarded_at suppressed attrs) attrs (field_end attrs i) none
  first_past_field suppressed none i h g =
      let lo = end_gt i h in
      let e : i + (field_end attrs i - i) ≡ field_end attrs i = omega arith in
      rw e at
      (first_skips (guarded_at suppressed attrs) none (field_end attrs i - i) i (length attrs) (omega (arith, end_le i))
      (λ j a b. rw (protected_as j i (rest_equal i j a (omega arith))) g))

  -- an unprotected field starts with an unprotected cell
  pub opens_unprotected : (i : ℕ) → opens_at attrs i ≡ true → protected_at attrs i ≡ false
  unfolding opens_at
  opens_unprotected i e = not-true _ (and_right (starts_at attrs i) _ e)

  -- an unprotected cell starts a field where no cell, or a protected one, stands before it
  abbrev Bounded : ℕ → Type 0
  Bounded i = (k : ℕ) → suc k ≡ i → protected_at attrs k ≡ true

  starts_open : (i : ℕ) → Bounded i → protected_at attrs i ≡ false → starts_at attrs i ≡ true
  unfolding starts_at
  starts_open zero h u = refl
  starts_open (suc k) h u = rw (ne_eqb _ _ (λ q. not_both _ (h k refl) (protected_as k (suc k) q ∙ u)))

  first_open : (none i n : ℕ) → Bounded i → first_of (opens_at attrs) none i n ≡ first_of (λ k. not (protected_at attrs k)) none i n
  unfolding first_of opens_at
  first_open none i zero h = refl
  first_open none i (suc n) h =
      true_or_false (protected_at attrs i)
      (λ e. rw (e, and-false) (first_open none (suc i) n (λ k z. let s : k ≡ i = omega arith in rw s e)))
      (λ e. rw (e, starts_open i h e))

  -- the first unprotected field starts at the first unprotected cell
  pub first_start : (none : ℕ) → first_from (opens_at attrs) attrs 0 none ≡ first_from (λ i. not (protected_at attrs i)) attrs 0 none
  first_start none = first_open none 0 (length attrs - 0) (λ k z. absurd (omega arith))

  -- the next open cell is on the screen
  pub next_open-lt : (suppressed : Bool) (cursor : ℕ) → cursor < length attrs → next_open suppressed attrs cursor < length attrs
  unfolding next_open
  next_open-lt suppressed cursor h = first_below _ cursor (cursor + 1) (length attrs - (cursor + 1)) (length attrs) (omega arith) h

-- whether some cell passes a test, by a cell that a scan has come to
module _ (test : ℕ → Bool) (attrs : List ℕ) (i j : ℕ)
    (e : first_from test attrs i (length attrs) ≡ first_from test attrs j (length attrs)) where
  pub some_here : j < length attrs → test j ≡ true → some_in test i (length attrs) ≡ true
  some_here h t = rw (e, first_hit test (length attrs) j (length attrs) h t) (lt-ltb j (length attrs) h)

  pub some_nowhere : length attrs ≤ j → some_in test i (length attrs) ≡ false
  some_nowhere h = rw (e, first_end test (length attrs) j (length attrs) h) (le-ltb (length attrs) (length attrs) (omega arith))

-- is any cell guarded: looked for a field at a time
pub ruleset by_fields = (end_gt, first_past_field, some_here, some_nowhere)

-- Laws of the list of field records, and of the question that it answers.
use Rattle.std.proofs.Common.{◌≡◌, refl, sym, ap, ◌∙◌, true, false, List, [], ◌∷◌, ℕ, zero, suc, ◌+◌, ◌-◌, ◌≤◌, ◌<◌, min, arith, add-one, lt-ltb, le-ltb, eq-eqb, ne_eqb, eqb-true, eqb, length}
use lib.ListN.{get_or-eq_default}
use Rattle.words.proofs.Laws.{true_or_false, less_or_not, not_both}
use Rattle.screen.specs.Attributes.{protected_at}
use Rattle.screen.specs.Fields.{starts_at, opens_at, field_start, field_end}
use Rattle.screen.specs.FieldList.{record_of, fields_from, fields_of, same_record, agrees_from, agrees}
use Rattle.screen.specs.FieldList.{opens_before, found_by_reading, counted, found_from, found_by_list}
use Rattle.screen.specs.declared.record.FieldRecord.{FieldRecord}
use Rattle.screen.proofs.WordLaws.{last_hit, first_end}
use Rattle.screen.proofs.FieldLaws.{protected_as, end_gt, end_le, end_starts, none_opens, rest_equal, field_is, field_only}

-- ---- agreement

pub same_record-self : (x : FieldRecord) → same_record x x ≡ true
same_record-self x = rw (eq-eqb x.start x.start refl, eq-eqb x.length x.length refl)

pub same_record-only : (x y : FieldRecord) → same_record x y ≡ true → x ≡ y
same_record-only x y e =
    true_or_false (eqb x.start y.start)
    (λ s. λ i. record { start = eqb-true x.start y.start s i; length = eqb-true x.length y.length (rw s at e) i })
    (λ s. not_both false (rw s at e) refl)

module _ (attrs : List ℕ) where
  -- behind the last cell
  pub past_end : (at : ℕ) → length attrs ≤ at → field_end attrs at ≡ length attrs
  unfolding field_end
  past_end at h = first_end (starts_at attrs) (length attrs) (at + 1) (length attrs) (omega arith)

  -- of a list that agrees: its first record, and the others
  pub agrees_here : (x : FieldRecord) (xs : List FieldRecord) (at : ℕ) → agrees_from (x ∷ xs) attrs at ≡ true
      → (x ≡ record_of at (field_end attrs at)) × (agrees_from xs attrs (field_end attrs at) ≡ true)
  unfolding agrees_from
  agrees_here x xs at e =
      let same = same_record x (record_of at (field_end attrs at)) in
      true_or_false same (λ s. (same_record-only x _ s, rw s at e)) (λ s. not_both false (rw s at e) refl)

  -- the list of the fields agrees, and no other list of as many records
  own_from : (n at : ℕ) → length attrs ≤ at + n → agrees_from (fields_from n attrs at) attrs at ≡ true
  unfolding agrees_from fields_from
  own_from zero at room = rw (le-ltb at (length attrs) (omega arith))
  own_from (suc n) at room =
      let left : length attrs ≤ field_end attrs at + n =
      less_or_not at (length attrs) (λ h. omega (arith, end_gt attrs at h)) (λ h. omega (arith, past_end at h)) in
      rw (same_record-self (record_of at (field_end attrs at))) (own_from n (field_end attrs at) left)

  only_from : (list : List FieldRecord) (at : ℕ) → agrees_from list attrs at ≡ true → list ≡ fields_from (length list) attrs at
  unfolding fields_from
  only_from [] at e = refl
  only_from (x ∷ xs) at e =
      let p = agrees_here x xs at e in
      λ i. p.0 i ∷ only_from xs (field_end attrs at) p.1 i

  pub agrees_own : (n : ℕ) → length attrs ≤ n → agrees (fields_of n attrs) attrs ≡ true
  agrees_own n room = own_from n 0 (omega (arith, room))

  pub agrees_only : (list : List FieldRecord) → agrees list attrs ≡ true → list ≡ fields_of (length list) attrs
  agrees_only list e = only_from list 0 e

pub fields_from-length : (n : ℕ) (attrs : List ℕ) (cell : ℕ) → length (fields_from n attrs cell) ≡ n
unfolding fields_from
fields_from-length zero attrs cell = refl
fields_from-length (suc n) attrs cell = ap suc (fields_from-length n attrs (field_end attrs cell))

-- ---- the question
module _ (attrs : List ℕ) where
  -- the field that starts at a cell is the field of each of its cells
  pub start_self : (at : ℕ) → at < length attrs → starts_at attrs at ≡ true → field_start attrs at ≡ at
  unfolding field_start
  start_self at h s =
      let m : min (at + 1) (length attrs) ≡ at + 1 = omega (arith, h) in
      let k : at + 1 - 1 ≡ at = omega arith in
      rw m (last_hit (starts_at attrs) 0 (at + 1) (omega arith) (rw k s) ∙ k)

  field_of : (at i : ℕ) → at < length attrs → starts_at attrs at ≡ true → at ≤ i → i < field_end attrs at
      → (at ≡ field_start attrs i) × (field_end attrs at ≡ field_end attrs i)
  field_of at i h s lo hi = field_only attrs at (field_end attrs at) i (rw (start_self at h s) at (field_is attrs at h)) lo hi

  -- past its first cell a field is counted, if it is unprotected
  opens_within : (at j : ℕ) → starts_at attrs at ≡ true → at < j → j ≤ field_end attrs at
      → opens_before attrs j ≡ counted (opens_before attrs at) (protected_at attrs at)
  unfolding opens_before opens_at
  opens_within at zero s lo hi = absurd (omega arith)
  opens_within at (suc j) s lo hi =
      less_or_not at j
      (λ l. rw (none_opens attrs at j l (omega arith)) (opens_within at j s l (omega arith)))
      (λ l. let z : j ≡ at = omega arith in rw (z, s, add-one) (true_or_false (protected_at attrs at) (λ e. rw e) (λ e. rw e)))

  past_protected : (i : ℕ) → length attrs ≤ i → protected_at attrs i ≡ true
  unfolding protected_at
  past_protected i h = rw (get_or-eq_default attrs 8 {n = i} h)

  module _ (cell : ℕ) where
    -- the field at `at` has the cell
    found_here : (n at : ℕ) → at ≤ cell → at < length attrs → starts_at attrs at ≡ true → cell < field_end attrs at
        → found_from (opens_before attrs at) (fields_from (suc n) attrs at) attrs cell ≡ found_by_reading attrs cell
    unfolding found_from fields_from
    found_here n at lo h s l =
        let o = field_of at cell h s lo l in
        rw (
          lt-ltb at (field_end attrs at) (end_gt attrs at h),
          ne_eqb (field_end attrs at - at) 0 (λ z. omega (arith, end_gt attrs at h)),
          le-ltb cell at lo,
          lt-ltb (cell - at) (field_end attrs at - at) (omega arith),
          sym o.0,
          sym o.1,
          protected_as attrs cell at (rest_equal attrs at cell lo l),
          opens_within at (suc cell) s (omega arith) (omega arith),
        )
        (true_or_false (protected_at attrs at) (λ p. rw p) (λ p. rw p))

    found_from_lem : (n at : ℕ) → at ≤ cell → (at < length attrs → starts_at attrs at ≡ true) → length attrs ≤ at + n
        → found_from (opens_before attrs at) (fields_from n attrs at) attrs cell ≡ found_by_reading attrs cell
    unfolding found_from fields_from
    found_from_lem zero at lo s room = rw (past_protected cell (omega arith))
    found_from_lem (suc n) at lo s room =
        less_or_not at (length attrs)
        (λ h. less_or_not cell (field_end attrs at) (found_here n at lo h (s h))
        (λ l. rw (
          lt-ltb at (field_end attrs at) (end_gt attrs at h),
          ne_eqb (field_end attrs at - at) 0 (λ z. omega (arith, end_gt attrs at h)),
          le-ltb cell at lo,
          le-ltb (cell - at) (field_end attrs at - at) (omega arith),
          sym (opens_within at (field_end attrs at) (s h) (end_gt attrs at h) (omega arith)),
        )
        (found_from_lem n (field_end attrs at) l (end_starts attrs at) (omega (arith, end_gt attrs at h)))))
        (λ h. rw (le-ltb at (field_end attrs at) (omega (arith, end_le attrs at)), past_protected cell (omega arith)))

  -- the list of the fields answers as reading every attribute does, and so does each list that is not refused
  pub query_reads : (n cell : ℕ) → length attrs ≤ n → found_by_list (fields_of n attrs) attrs cell ≡ found_by_reading attrs cell
  unfolding starts_at opens_before
  query_reads n cell room = found_from_lem cell n 0 (omega arith) (λ h. refl) (omega arith)

  pub query_agrees : (list : List FieldRecord) (cell : ℕ) → length attrs ≤ length list → agrees list attrs ≡ true
      → found_by_list list attrs cell ≡ found_by_reading attrs cell
  query_agrees list cell room e = rw (agrees_only attrs list e) (query_reads (length list) cell room)

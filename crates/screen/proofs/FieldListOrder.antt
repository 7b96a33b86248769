-- The list of all fields, once each and in reading order, agrees, and no other list does.
use Rattle.std.proofs.Common.{◌≡◌, refl, ap, ◌∙◌, true, false, List, [], ◌∷◌, ℕ, zero, suc, ◌+◌, ◌-◌, ◌≤◌, ◌<◌, arith, lt-ltb, le-ltb, eq-eqb, ne_eqb, eqb, length, if◌then◌else◌}
use Rattle.words.proofs.Laws.{less_or_not, not_both}
use Rattle.screen.specs.Fields.{Field, starts_at, field_end}
use Rattle.screen.specs.FieldList.{FieldList, unused, record_at, record_of, agrees_from, agrees}
use Rattle.screen.specs.declared.record.FieldRecord.{FieldRecord}
use Rattle.screen.proofs.FieldLaws.{end_gt, end_le, end_starts, field_is, field_only}
use Rattle.screen.proofs.FieldListLaws.{same_record-self, past_end, agrees_here, start_self}

module _ (attrs : List ℕ) where
  -- the list of the fields from a cell on
  record From (at : ℕ) (list : List FieldRecord) : Type 0 where
    used : ℕ
    place : ℕ → ℕ
    room : used ≤ length list
    each : (k : ℕ) → k < used → Field attrs (record_at list k).start ((record_at list k).start + (record_at list k).length)
    after : (k : ℕ) → k < used → at ≤ (record_at list k).start
    every : (s e : ℕ) → at ≤ s → Field attrs s e → (place s < used) × (record_at list (place s) ≡ record { start = s; length = e - s })
    order : (j k : ℕ) → j < k → k < used → (record_at list j).start < (record_at list k).start
    zeros : (k : ℕ) → used ≤ k → record_at list k ≡ unused

  -- where a field can start: at a start, or behind the last cell
  abbrev Start : ℕ → Type 0
  Start at = at < length attrs → starts_at attrs at ≡ true

  -- the field that starts at a cell, and the fields that start later
  here : (at : ℕ) → at < length attrs → starts_at attrs at ≡ true → Field attrs at (field_end attrs at)
  here at h s = rw (start_self attrs at h s) at (field_is attrs at h)

  same_end : (at e : ℕ) → Field attrs at e → e ≡ field_end attrs at
  same_end at e f = (field_only attrs at e at f (omega arith) f.run.some).1

  later : (at s e : ℕ) → at < length attrs → starts_at attrs at ≡ true → at < s → Field attrs s e → field_end attrs at ≤ s
  later at s e h st l f =
      less_or_not s (field_end attrs at)
      (λ b. let p = (field_only attrs at (field_end attrs at) s (here at h st) (omega arith) b).0 in
      let q = (field_only attrs s e s f (omega arith) f.run.some).0 in absurd (omega (arith, p, q, l)))
      (λ b. b)

  -- behind the last cell nothing is left but zeros
  none_left : (list : List FieldRecord) (at k : ℕ) → length attrs ≤ at → agrees_from list attrs at ≡ true → record_at list k ≡ unused
  none_left [] at k h e = refl
  none_left (x ∷ xs) at zero h e = (agrees_here attrs x xs at e).0 ∙ rw (le-ltb at (field_end attrs at) (omega (arith, end_le attrs at)))
  none_left (x ∷ xs) at (suc k) h e =
      none_left xs (field_end attrs at) k (omega (arith, past_end attrs at h)) (agrees_here attrs x xs at e).1

  -- ---- a list that agrees is such a list
  from_end : (list : List FieldRecord) (at : ℕ) → length attrs ≤ at → agrees_from list attrs at ≡ true → From at list
  from_end list at h agree = record {
    used = 0;
    place = λ s. 0;
    room = omega arith;
    each = λ k l. absurd (omega arith);
    after = λ k l. absurd (omega arith);
    every = λ s e lo f. absurd (omega (arith, f.run.some, f.run.within));
    order = λ j k l u. absurd (omega arith);
    zeros = λ k l. none_left list at k h agree;
  }

  -- one field more before the others
  module _ (at : ℕ) (h : at < length attrs) (st : starts_at attrs at ≡ true) (xs : List FieldRecord) (F : From (field_end attrs at) xs) where
    abbrev ys : List FieldRecord
    ys = record { start = at; length = field_end attrs at - at } ∷ xs

    each_more : (k : ℕ) → k < suc F.used → Field attrs (record_at ys k).start ((record_at ys k).start + (record_at ys k).length)
    each_more zero l = let e : at + (field_end attrs at - at) ≡ field_end attrs at = omega (arith, end_gt attrs at h) in rw e (here at h st)
    each_more (suc k) l = F.each k (omega arith)

    after_more : (k : ℕ) → k < suc F.used → at ≤ (record_at ys k).start
    after_more zero l = omega arith
    after_more (suc k) l = omega (arith, F.after k (omega arith), end_gt attrs at h)

    abbrev place_more : ℕ → ℕ
    place_more s = if eqb s at then 0 else suc (F.place s)

    every_more : (s e : ℕ) → at ≤ s → Field attrs s e
        → (place_more s < suc F.used) × (record_at ys (place_more s) ≡ record { start = s; length = e - s })
    every_more s e lo f =
        less_or_not at s
        (λ l. let p = F.every s e (later at s e h st l f) f in rw (ne_eqb s at (λ z. omega arith)) (omega (arith, p.0), p.1))
        (λ l. let z : s ≡ at = omega arith in
        rw (eq-eqb s at z) (omega arith, rw (z, same_end s e f ∙ ap (field_end attrs) z)))

    order_more : (j k : ℕ) → j < k → k < suc F.used → (record_at ys j).start < (record_at ys k).start
    order_more j zero l u = absurd (omega arith)
    order_more zero (suc k) l u = omega (arith, F.after k (omega arith), end_gt attrs at h)
    order_more (suc j) (suc k) l u = F.order j k (omega arith) (omega arith)

    zeros_more : (k : ℕ) → suc F.used ≤ k → record_at ys k ≡ unused
    zeros_more zero l = absurd (omega arith)
    zeros_more (suc k) l = F.zeros k (omega arith)

    from_more : From at ys
    from_more = record {
      used = suc F.used;
      place = place_more;
      room = omega (arith, F.room);
      each = each_more;
      after = after_more;
      every = every_more;
      order = order_more;
      zeros = zeros_more;
    }

  from_step : (x : FieldRecord) (xs : List FieldRecord) (at : ℕ) → at < length attrs → starts_at attrs at ≡ true
      → x ≡ record_of at (field_end attrs at) → From (field_end attrs at) xs → From at (x ∷ xs)
  from_step x xs at h st e F = rw (e, lt-ltb at (field_end attrs at) (end_gt attrs at h)) (from_more at h st xs F)

  from_is : (list : List FieldRecord) (at : ℕ) → Start at → agrees_from list attrs at ≡ true → From at list
  unfolding agrees_from
  from_is [] at s e =
      less_or_not at (length attrs) (λ h. not_both false (rw (lt-ltb at (length attrs) h) at e) refl) (λ h. from_end [] at h e)
  from_is (x ∷ xs) at s e =
      let p = agrees_here attrs x xs at e in
      less_or_not at (length attrs)
      (λ h. from_step x xs at h (s h) p.0 (from_is xs (field_end attrs at) (end_starts attrs at) p.1))
      (λ h. from_end (x ∷ xs) at h e)

  pub list_is : (list : List FieldRecord) → agrees list attrs ≡ true → FieldList attrs list
  unfolding starts_at
  list_is list e =
      let F = from_is list 0 (λ h. refl) e in
      record {
        used = F.used;
        place = F.place;
        room = F.room;
        each = F.each;
        every = λ s e f. F.every s e (omega arith) f;
        order = F.order;
        zeros = F.zeros;
      }

  -- ---- and no other list is
  module _ (at : ℕ) (x : FieldRecord) (xs : List FieldRecord) (F : From at (x ∷ xs)) where
    -- the field at the cell has the first record
    first_place : at < length attrs → starts_at attrs at ≡ true → x ≡ record { start = at; length = field_end attrs at - at }
    first_place h st = go (F.place at) p.0 p.1
      where
        p : (F.place at < F.used) × (record_at (x ∷ xs) (F.place at) ≡ record { start = at; length = field_end attrs at - at })
        p = F.every at (field_end attrs at) (omega arith) (here at h st)

        go : (k : ℕ) → k < F.used → record_at (x ∷ xs) k ≡ record { start = at; length = field_end attrs at - at }
            → x ≡ record { start = at; length = field_end attrs at - at }
        go zero l e = e
        go (suc k) l e =
            let b : (record_at xs k).start ≡ at = ap (λ (r : FieldRecord). r.start) e in
            absurd (omega (arith, F.order 0 (suc k) (omega arith) l, F.after 0 (omega arith), b))

    -- what is left of the list is the list of the fields from the next one on
    rest : at < length attrs → starts_at attrs at ≡ true → From (field_end attrs at) xs
    rest h st = record {
      used = F.used - 1;
      place = λ s. F.place s - 1;
      room = omega (arith, F.room);
      each = λ k l. F.each (suc k) (omega arith);
      after = λ k l. later at _ _ h st (rw is_at at (F.order 0 (suc k) (omega arith) (omega arith))) (F.each (suc k) (omega arith));
      every = λ s e lo f. let l : at < s = omega (arith, end_gt attrs at h) in let p = F.every s e (omega arith) f in go s e l (F.place s) p.0 p.1;
      order = λ j k l u. F.order (suc j) (suc k) (omega arith) (omega arith);
      zeros = λ k l. F.zeros (suc k) (omega arith);
    }
      where
        is_at : x.start ≡ at
        is_at = ap (λ (r : FieldRecord). r.start) (first_place h st)

        go : (s e : ℕ) → at < s → (k : ℕ) → k < F.used → record_at (x ∷ xs) k ≡ record { start = s; length = e - s }
            → (k - 1 < F.used - 1) × (record_at xs (k - 1) ≡ record { start = s; length = e - s })
        go s e lo zero l q = let b : x.start ≡ s = ap (λ (r : FieldRecord). r.start) q in absurd (omega (arith, is_at, b))
        go s e lo (suc k) l q = let m : suc k - 1 ≡ k = omega arith in rw m (omega arith, q)

    -- behind the last cell
    none_used : length attrs ≤ at → F.used ≡ 0
    none_used h = go F.used refl
      where
        go : (n : ℕ) → F.used ≡ n → F.used ≡ 0
        go zero e = e
        go (suc n) e = let f = (F.each 0 (omega arith)).run in absurd (omega (arith, f.some, f.within, F.after 0 (omega arith)))

    rest_end : length attrs ≤ at → From (field_end attrs at) xs
    rest_end h = record {
      used = 0;
      place = λ s. 0;
      room = omega arith;
      each = λ k l. absurd (omega arith);
      after = λ k l. absurd (omega arith);
      every = λ s e lo f. absurd (omega (arith, f.run.some, f.run.within, past_end attrs at h));
      order = λ j k l u. absurd (omega arith);
      zeros = λ k l. F.zeros (suc k) (omega (arith, none_used h));
    }

  from_only : (list : List FieldRecord) (at : ℕ) → Start at → From at list → agrees_from list attrs at ≡ true
  unfolding agrees_from
  from_only [] at s F =
      less_or_not at (length attrs)
      (λ h. absurd (omega (arith, (F.every at (field_end attrs at) (omega arith) (here at h (s h))).0, F.room)))
      (λ h. rw (le-ltb at (length attrs) h))
  from_only (x ∷ xs) at s F =
      less_or_not at (length attrs)
      (λ h. rw (first_place at x xs F h (s h), lt-ltb at (field_end attrs at) (end_gt attrs at h), same_record-self (record { start = at; length = _ }))
      (from_only xs (field_end attrs at) (end_starts attrs at) (rest at x xs F h (s h))))
      (λ h. let z : x ≡ unused = F.zeros 0 (omega (arith, none_used at x xs F h)) in
      rw (z, le-ltb at (field_end attrs at) (omega (arith, end_le attrs at)))
      (from_only xs (field_end attrs at) (end_starts attrs at) (rest_end at x xs F h)))

  pub list_only : (list : List FieldRecord) → FieldList attrs list → agrees list attrs ≡ true
  unfolding starts_at
  list_only list F = from_only list 0 (λ h. refl) (record {
    used = F.used;
    place = F.place;
    room = F.room;
    each = F.each;
    after = λ k l. omega arith;
    every = λ s e lo f. F.every s e f;
    order = F.order;
    zeros = F.zeros;
  })

-- Laws of the scan of a list: record by record, and what it comes to.
use Rattle.std.proofs.Common.{◌≡◌, refl, sym, ◌∙◌, Bool, true, false, not, ◌&&◌, List, [], ◌∷◌, ℕ, suc, ◌+◌, ◌-◌, ◌≤◌, ◌<◌, arith, add-one, lt-ltb, le-ltb, ltb-true, eq-eqb, ne_eqb, eqb-true, eqb, ltb, length, get_or, take, drop, drop_of_length-le, length-drop, drop-cons, take_all}
use borrow.Author.Tests.{eqb-false, not-true}
use Rattle.words.proofs.Laws.{true_or_false, less_or_not, not_both, both, and_left, and_right, and_false}
use Rattle.screen.specs.Fields.{starts_at, field_end}
use Rattle.screen.specs.FieldList.{unused, same_record, agrees_from, agrees}
use Rattle.screen.specs.declared.record.FieldRecord.{FieldRecord}
use Rattle.screen.proofs.FieldLaws.{end_gt, end_le, end_starts}
use Rattle.screen.proofs.FieldListLaws.{past_end}
use Rattle.fields.specs.declared.scan.Scan.{Scan}
use Rattle.fields.specs.Inner.Records.{is_unused, all_unused}
use Rattle.fields.specs.Inner.Scans.{begun, is_next, end_of, goes_on, longer, scanned, all_read}
use Rattle.fields.specs.Inner.Starts.{starts_before}
use Rattle.fields.proofs.CountLaws.{starts_more, none_within, one_start}

-- ---- record by record: they have come to their end; the scan ends at one, or behind it; or it goes on
module _ (attrs : List ℕ) where
  pub scan_end : (s : Scan) (xs : List FieldRecord) (k : ℕ) → length xs ≤ k → scanned s (drop k xs) attrs ≡ s
  unfolding scanned
  scan_end s xs k h = rw (drop_of_length-le xs {i = k} h)

  module _ (s : Scan) (xs : List FieldRecord) (k : ℕ) (h : k < length xs) where
    abbrev here : FieldRecord
    here = get_or xs k unused

    pub scan_off : is_next s.cell here ≡ false → scanned s (drop k xs) attrs ≡ s
    unfolding scanned
    scan_off e = rw (drop-cons xs k unused h, e)

    pub scan_last : is_next s.cell here ≡ true → goes_on attrs (end_of here) ≡ false → scanned s (drop k xs) attrs ≡ longer s here
    unfolding scanned
    scan_last e f = rw (drop-cons xs k unused h, e, f)

    pub scan_next : is_next s.cell here ≡ true → goes_on attrs (end_of here) ≡ true
        → scanned s (drop k xs) attrs ≡ scanned (longer s here) (drop (k + 1) xs) attrs
    unfolding scanned
    scan_next e f = rw (drop-cons xs k unused h, e, f, add-one k)

pub ruleset scanning = (scan_end, scan_off, scan_last, scan_next)

module _ (attrs : List ℕ) where
  -- ---- a scan against the attributes
  unused_same : (x : FieldRecord) → same_record x unused ≡ is_unused x
  unused_same x = true_or_false (eqb x.start 0) (λ e. rw e) (λ e. rw e)

  -- behind the last cell, zeros agree
  agrees_end : (xs : List FieldRecord) (at : ℕ) → length attrs ≤ at → agrees_from xs attrs at ≡ all_unused xs
  unfolding agrees_from all_unused
  agrees_end [] at h = rw (le-ltb at (length attrs) h)
  agrees_end (x ∷ xs) at h =
      rw (
        le-ltb at (field_end attrs at) (omega (arith, end_le attrs at)),
        unused_same x,
        agrees_end xs (field_end attrs at) (omega (arith, past_end attrs at h)),
      )
      (true_or_false (is_unused x) (λ e. rw e) (λ e. rw e))

  used : (x : FieldRecord) (xs : List FieldRecord) → 0 < x.length → all_unused (x ∷ xs) ≡ false
  unfolding all_unused
  used x xs h = rw (and_false (eqb x.start 0) (eqb x.length 0) (ne_eqb x.length 0 (λ z. omega (arith, z, h))))

  -- What a scan has come to: its records are the fields where they end with the screen, there are as many as fields start, and zeros
  -- stand behind them.
  abbrev Says : ℕ → Scan → List FieldRecord → Bool
  Says before r xs = all_read r attrs && all_unused (drop (r.count - before) xs)

  abbrev Checks : Scan → List FieldRecord → Scan → Type 0
  Checks s xs r = (s.count ≤ r.count) × (Says s.count r xs ≡ agrees_from xs attrs s.cell)

  -- it says no where it ended at another cell, and where more fields start than it has records
  off_end : (before : ℕ) (r : Scan) (xs : List FieldRecord) → (r.cell ≡ length attrs → ⊥) → Says before r xs ≡ false
  off_end before r xs other = rw (ne_eqb r.cell (length attrs) other)

  too_few : (before : ℕ) (r : Scan) (xs : List FieldRecord) → r.count < starts_before attrs r.cell → Says before r xs ≡ false
  too_few before r xs h =
      true_or_false (eqb r.cell (length attrs))
      (λ e. let c : r.cell ≡ length attrs = eqb-true r.cell (length attrs) e in
      rw (e, ne_eqb r.count (starts_before attrs (length attrs)) (λ z. omega (arith, z, rw c at h))))
      (λ e. rw e)

  -- the list says yes or no to its first record
  module _ (x : FieldRecord) (xs : List FieldRecord) (at : ℕ) (h : at < length attrs) where
    not_field : (x.start ≡ at → end_of x ≡ field_end attrs at → ⊥) → agrees_from (x ∷ xs) attrs at ≡ false
    unfolding agrees_from
    not_field other =
        rw (lt-ltb at (field_end attrs at) (end_gt attrs at h))
        (true_or_false (eqb x.start at)
        (λ e. let a : x.start ≡ at = eqb-true x.start at e in
        rw (e, ne_eqb x.length (field_end attrs at - at) (λ z. other a (omega (arith, a, z, end_gt attrs at h)))))
        (λ e. rw e))

    is_field : x.start ≡ at → end_of x ≡ field_end attrs at → agrees_from (x ∷ xs) attrs at ≡ agrees_from xs attrs (field_end attrs at)
    unfolding agrees_from
    is_field a e =
        rw (
          lt-ltb at (field_end attrs at) (end_gt attrs at h),
          eq-eqb x.start at a,
          eq-eqb x.length (field_end attrs at - at) (omega (arith, a, e)),
        )

  -- the tests of a record and of its end, and what they tell
  next_tells : (s : Scan) (x : FieldRecord) → is_next s.cell x ≡ true → (x.start ≡ s.cell) × (0 < x.length)
  next_tells s x b =
      let some = eqb-false x.length 0 (not-true (eqb x.length 0) (and_right (eqb x.start s.cell) (not (eqb x.length 0)) b)) in (
        eqb-true x.start s.cell (and_left (eqb x.start s.cell) (not (eqb x.length 0)) b),
        less_or_not 0 x.length (λ l. l) (λ l. absurd (some (omega arith))),
      )

  is_next_lem : (s : Scan) (x : FieldRecord) → x.start ≡ s.cell → 0 < x.length → is_next s.cell x ≡ true
  is_next_lem s x a some = rw (eq-eqb x.start s.cell a, ne_eqb x.length 0 (λ z. omega (arith, z, some)))

  on_tells : (cell : ℕ) → goes_on attrs cell ≡ true → (cell < length attrs) × (starts_at attrs cell ≡ true)
  on_tells cell e = (
    ltb-true cell (length attrs) (and_left (ltb cell (length attrs)) (starts_at attrs cell) e),
    and_right (ltb cell (length attrs)) (starts_at attrs cell) e,
  )

  module _ (x : FieldRecord) (xs : List FieldRecord) (s : Scan) where
    -- the scan goes on behind the record, or ends there, or before it
    reads_on : is_next s.cell x ≡ true → goes_on attrs (end_of x) ≡ true → scanned s (x ∷ xs) attrs ≡ scanned (longer s x) xs attrs
    unfolding scanned
    reads_on b on = rw (b, on)

    reads_last : is_next s.cell x ≡ true → goes_on attrs (end_of x) ≡ false → scanned s (x ∷ xs) attrs ≡ longer s x
    unfolding scanned
    reads_last b off = rw (b, off)

    reads_off : is_next s.cell x ≡ false → scanned s (x ∷ xs) attrs ≡ s
    unfolding scanned
    reads_off b = rw b

  -- a scan that has passed a start over never makes up for it
  lost : (xs : List FieldRecord) (s : Scan) → starts_at attrs s.cell ≡ true → s.count < starts_before attrs s.cell
      → (s.count ≤ (scanned s xs attrs).count) × ((scanned s xs attrs).count < starts_before attrs (scanned s xs attrs).cell)
  unfolding scanned
  lost [] s g h = (omega arith, h)
  lost (x ∷ xs) s g h =
      true_or_false (is_next s.cell x)
      (λ b. let t = next_tells s x b in
      let m : s.count + 1 < starts_before attrs (end_of x) = omega (arith, h, starts_more attrs s.cell (end_of x) g (omega (arith, t.0, t.1))) in
      true_or_false (goes_on attrs (end_of x))
      (λ on. let q = lost xs (longer s x) (on_tells (end_of x) on).1 m in
      rw (reads_on x xs s b on) (omega (arith, q.0), q.1))
      (λ off. rw (reads_last x xs s b off) (omega arith, m)))
      (λ b. rw (reads_off x xs s b) (omega arith, h))

  -- so far, its records are the fields
  abbrev Exact : Scan → Type 0
  Exact s = (s.cell < length attrs) × (starts_at attrs s.cell ≡ true) × (s.count ≡ starts_before attrs s.cell)

  module _ (x : FieldRecord) (xs : List FieldRecord) (s : Scan) (a : Exact s) where
    abbrev after : ℕ
    after = field_end attrs s.cell

    wrong_here : is_next s.cell x ≡ false → Checks s (x ∷ xs) s
    wrong_here b = (
      omega arith,
      off_end s.count s (x ∷ xs) (λ z. omega (arith, z, a.0))
          ∙ sym (not_field x xs s.cell a.0
          (λ p q. not_both _ (is_next_lem s x p (omega (arith, p, q, end_gt attrs s.cell a.0))) b)),
    )

    module _ (b : is_next s.cell x ≡ true) where
      abbrev right : Scan
      right = longer s x

      abbrev r : Scan
      r = scanned right xs attrs

      abbrev t : (x.start ≡ s.cell) × (0 < x.length)
      t = next_tells s x b

      counts : starts_before attrs after ≡ starts_before attrs s.cell + 1
      counts = one_start attrs s.cell after a.1 (end_gt attrs s.cell a.0) (omega arith)

      -- the record ends past its field: the scan goes on, or it does not
      long : after < end_of x → after < length attrs → s.count + 1 < starts_before attrs (end_of x)
      long l k = omega (arith, starts_more attrs after (end_of x) (end_starts attrs s.cell k) l, counts, a.2)

      long_on : after < end_of x → goes_on attrs (end_of x) ≡ true → Checks s (x ∷ xs) r
      long_on l on =
          let w = on_tells (end_of x) on in
          let q = lost xs right w.1 (long l (omega (arith, l, w.0))) in (
            omega (arith, q.0),
            too_few s.count r (x ∷ xs) q.1 ∙ sym (not_field x xs s.cell a.0 (λ p e. omega (arith, e, l))),
          )

      long_end : after < end_of x → end_of x ≡ length attrs → Checks s (x ∷ xs) right
      long_end l z = (
        omega arith,
        too_few s.count right (x ∷ xs) (long l (omega (arith, l, z)))
            ∙ sym (not_field x xs s.cell a.0 (λ p e. omega (arith, e, l))),
      )

      -- it ends at no start, or past the screen's end
      off_start : end_of x < length attrs → goes_on attrs (end_of x) ≡ false → Checks s (x ∷ xs) right
      off_start l off = (
        omega arith,
        off_end s.count right (x ∷ xs) (λ z. omega (arith, z, l))
            ∙ sym (not_field x xs s.cell a.0
            (λ p e. not_both _ (both _ _ (lt-ltb (end_of x) (length attrs) l) (rw e (end_starts attrs s.cell (omega (arith, e, l))))) off)),
      )

      past_screen : length attrs < end_of x → Checks s (x ∷ xs) right
      past_screen l = (
        omega arith,
        off_end s.count right (x ∷ xs) (λ z. omega (arith, z, l))
            ∙ sym (not_field x xs s.cell a.0 (λ p e. omega (arith, e, l, end_le attrs s.cell))),
      )

      -- it is its field, and others follow; and it is the last
      module _ (e : end_of x ≡ after) where
        exact : after < length attrs → Exact right
        exact k = (omega (arith, e, k), rw e (end_starts attrs s.cell k), rw e (omega (arith, counts, a.2)))

        follows : (o : Scan) → Checks right xs o → Checks s (x ∷ xs) o
        follows o c =
            let m : o.count - s.count ≡ suc (o.count - (s.count + 1)) = omega (arith, c.0) in
            (omega (arith, c.0), rw m (c.1 ∙ rw e (sym (is_field x xs s.cell a.0 t.0 e))))

        last : length attrs ≤ after → Checks s (x ∷ xs) right
        last k =
            let m : s.count + 1 - s.count ≡ 1 = omega arith in
            let z : after ≡ length attrs = omega (arith, k, end_le attrs s.cell) in
            let n : s.count + 1 ≡ starts_before attrs (length attrs) = rw (sym z) (omega (arith, counts, a.2)) in (
              omega arith,
              rw (eq-eqb (end_of x) (length attrs) (e ∙ z), eq-eqb (s.count + 1) (starts_before attrs (length attrs)) n, m)
                  (sym (is_field x xs s.cell a.0 t.0 e ∙ agrees_end xs after k)),
            )

  check_none : (s : Scan) → Exact s → Checks s [] s
  unfolding agrees_from
  check_none s a = (omega arith, off_end s.count s [] (λ z. omega (arith, z, a.0)) ∙ rw (lt-ltb s.cell (length attrs) a.0))

  check_from : (xs : List FieldRecord) (s : Scan) → Exact s → Checks s xs (scanned s xs attrs)
  unfolding scanned
  check_from [] s a = check_none s a
  check_from (x ∷ xs) s a =
      let n : ℕ = after x xs s a in
      true_or_false (is_next s.cell x)
      (λ b. let t = next_tells s x b in
      true_or_false (goes_on attrs (end_of x))
      (λ on. let w = on_tells (end_of x) on in
      rw (reads_on x xs s b on)
      (less_or_not n (end_of x) (λ l. long_on x xs s a b l on)
      (λ l. less_or_not (end_of x) n
      (λ m. not_both _ w.1 (none_within attrs s.cell (end_of x) (omega (arith, t.0, t.1)) m))
      (λ m. let z : end_of x ≡ n = omega (arith, l, m) in
      follows x xs s a b z (scanned (longer s x) xs attrs) (check_from xs (longer s x) (exact x xs s a b z (omega (arith, z, w.0))))))))
      (λ off. rw (reads_last x xs s b off)
      (less_or_not (end_of x) (length attrs) (λ l. off_start x xs s a b l off)
      (λ l. less_or_not (length attrs) (end_of x) (past_screen x xs s a b)
      (λ m. less_or_not n (end_of x) (λ k. long_end x xs s a b k (omega (arith, l, m)))
      (λ k. last x xs s a b (omega (arith, k, l, m, end_le attrs s.cell)) (omega (arith, k, l))))))))
      (λ b. rw (reads_off x xs s b) (wrong_here x xs s a b))

  -- a screen of no cells has no fields
  check_empty : (xs : List FieldRecord) → length attrs ≡ 0 → Checks begun xs (scanned begun xs attrs)
  unfolding scanned starts_before
  check_empty xs z = go xs
    where
      none : (ys : List FieldRecord) → Says 0 begun ys ≡ agrees_from ys attrs 0
      none ys = rw z (sym (agrees_end ys 0 (omega (arith, z))))

      go : (ys : List FieldRecord) → Checks begun ys (scanned begun ys attrs)
      go [] = (omega arith, none [])
      go (y ∷ ys) =
          true_or_false (is_next 0 y)
          (λ b. let t = next_tells begun y b in
          let off : goes_on attrs (end_of y) ≡ false = rw (le-ltb (end_of y) (length attrs) (omega (arith, z))) in
          rw (reads_last y ys begun b off) (
            omega arith,
            off_end 0 (longer begun y) (y ∷ ys) (λ q. omega (arith, q, z, t.1))
                ∙ sym (agrees_end (y ∷ ys) 0 (omega (arith, z)) ∙ used y ys t.1),
          ))
          (λ b. rw (reads_off y ys begun b) (omega arith, none (y ∷ ys)))

  -- the list agrees where a scan of it says so
  says_agrees : (list : List FieldRecord) (r : Scan) → r ≡ scanned begun list attrs
      → (all_read r attrs && all_unused (drop r.count list)) ≡ agrees list attrs
  unfolding starts_before starts_at
  says_agrees list r e =
      let o : Scan = scanned begun list attrs in
      let m : o.count - 0 ≡ o.count = omega arith in
      let c : Checks begun list o =
      less_or_not 0 (length attrs) (λ h. check_from list begun (h, refl, refl)) (λ h. check_empty list (omega arith)) in
      rw e (rw m at c.1)

  module _ (list : List FieldRecord) (r : Scan) (e : r ≡ scanned begun list attrs) where
    -- the records behind those read, as they are lent
    pub scan_read : all_read r attrs ≡ true → all_unused (take (length list - r.count) (drop r.count list)) ≡ agrees list attrs
    scan_read t =
        let n : length (drop r.count list) ≤ length list - r.count = omega (arith, length-drop r.count list) in
        rw (take_all (length list - r.count) (drop r.count list) n) (sym (rw t) ∙ says_agrees list r e)

    pub scan_left : all_read r attrs ≡ false → false ≡ agrees list attrs
    scan_left f = sym (rw f) ∙ says_agrees list r e

pub ruleset agreeing = (scan_read, scan_left)

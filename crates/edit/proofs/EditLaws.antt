-- Laws of the edits: what each keeps, and what stands in each cell afterwards.
use Rattle.std.proofs.Common.{◌≡◌, refl, sym, ◌∙◌, Bool, true, false, not, ◌&&◌, List, ◌++◌, ℕ, ◌+◌, ◌-◌, ◌≤◌, ◌<◌, min, arith, ltb-true, ltb-false, leb-true, eqb-true, lt-ltb, le-ltb, eq-eqb, ne_eqb, leb, ltb, eqb, length, get_or, set, take, drop, replicate, length-set, length-drop, length-take-le, get_or-take, get_or-drop, get_or-set_same, get_or-set_other, if◌then◌else◌, ◌⊎◌, inl, inr}
use borrow.Author.Tests.{eqb-false, lt-leb}
use borrow.Rule.Slice.PartMut.{put_mid, Post-is}
use Rattle.std.specs.List.{CopiedTo}
use lib.ListN.{length-replicate, get_or-replicate, get_or-eq_default}
use lib.Seq.{paste}
use Rattle.screen.specs.Words.{in_range}
use Rattle.screen.specs.Attributes.{protection, protected_at, guarded_at}
use Rattle.edit.specs.declared.range.Shift.{Shift}
use Rattle.edit.specs.declared.range.Shift.TheVariants.{Insertion, Deletion}
use Rattle.edit.specs.Edits.{deleted, deleted_cell, inserted, inserted_cell, shifted, lies, on_part, erased, erased_cell, filled, filled_cell, text_of, can_copy, Copied}
use Rattle.words.proofs.Laws.{either, true_or_false, less_or_not, and_left, and_right, and_false, get_d-within, tabulate_length, get_d_tabulate, tabulated}
use Rattle.screen.proofs.FieldLaws.{open_within}
use Rattle.edit.proofs.ListLaws.{in_range_lem, before_range, after_range, Replaces, replaced_length, replaced_before, replaced_inside, replaced_after}

-- ---- each edit keeps the length, and its cells are what the definition says, whatever is read beyond the end

module _ (by : ℕ) (part : List ℕ) where
  -- a deletion keeps the length of the part
  pub deleted_length : length (deleted by part) ≡ length part
  unfolding deleted
  deleted_length = tabulate_length (deleted_cell by part) 0 (length part)

  -- a cell of the part after a deletion
  pub deleted_cell_lem : (i d : ℕ) → i < length part → get_or (deleted by part) i d ≡ get_or part (i + by) 32
  unfolding deleted
  deleted_cell_lem = get_d_tabulate (deleted_cell by part) (length part)

  -- an insertion keeps the length of the part
  pub inserted_length : length (inserted by part) ≡ length part
  unfolding inserted
  inserted_length = tabulate_length (inserted_cell by part) 0 (length part)

  -- a cell of the part after an insertion
  pub inserted_cell_lem : (i d : ℕ) → i < length part → get_or (inserted by part) i d ≡ (if ltb i by then 32 else get_or part (i - by) 32)
  unfolding inserted
  inserted_cell_lem = get_d_tabulate (inserted_cell by part) (length part)

-- a shift keeps the length of the part
pub shifted_length : (shift : Shift) (by : ℕ) (part : List ℕ) → length (shifted shift by part) ≡ length part
unfolding shifted
shifted_length Insertion by part = inserted_length by part
shifted_length Deletion by part = deleted_length by part

module _ (suppressed : Bool) (chars attrs : List ℕ) (from end : ℕ) where
  -- an erasure keeps the length of the characters
  pub erased_length : length (erased suppressed chars attrs from end) ≡ length chars
  unfolding erased
  erased_length = tabulate_length (erased_cell suppressed chars attrs from end) 0 (length chars)

  -- a character after an erasure
  pub erased_cell_lem : (i d : ℕ) → i < length chars → get_or (erased suppressed chars attrs from end) i d ≡ erased_cell suppressed chars attrs from end i
  unfolding erased
  erased_cell_lem = get_d_tabulate (erased_cell suppressed chars attrs from end) (length chars)

module _ (from end byte : ℕ) (bytes : List ℕ) where
  -- filling keeps the length
  pub filled_length : length (filled from end byte bytes) ≡ length bytes
  unfolding filled
  filled_length = tabulate_length (filled_cell from end byte bytes) 0 (length bytes)

  -- a cell after filling
  pub filled_cell_lem : (i d : ℕ) → i < length bytes → get_or (filled from end byte bytes) i d ≡ filled_cell from end byte bytes i
  unfolding filled
  filled_cell_lem = get_d_tabulate (filled_cell from end byte bytes) (length bytes)

-- one cell filled is one byte stored
pub filled_one : (cell byte : ℕ) (bytes : List ℕ) → set bytes cell byte ≡ filled cell (cell + 1) byte bytes
unfolding filled
filled_one cell byte bytes =
    tabulated (filled_cell cell (cell + 1) byte bytes) (set bytes cell byte) (length bytes) 0 (length-set bytes cell byte)
    (λ k h. true_or_false (eqb k cell)
    (λ e. let q = eqb-true k cell e in rw (← q, in_range_lem k (k + 1) k (omega arith) (omega arith)) (get_or-set_same bytes k byte 0 h))
    (λ e. get_or-set_other bytes cell k byte 0 (eqb-false k cell e) ∙ rw (not_one cell k (eqb-false k cell e))))
  where
    not_one : (cell k : ℕ) → (k ≡ cell → ⊥) → in_range cell (cell + 1) k ≡ false
    not_one cell k n =
        true_or_false (leb cell k)
        (λ e. rw (e, le-ltb k (cell + 1) (omega (arith, leb-true cell k e))))
        (λ e. rw e)

-- with nothing guarded an erasure stores a space in every cell of the range
pub erased_all : (chars attrs : List ℕ) (from end : ℕ) → filled from end 32 chars ≡ erased true chars attrs from end
unfolding erased
erased_all chars attrs from end =
    tabulated (erased_cell true chars attrs from end) (filled from end 32 chars) (length chars) 0 (filled_length from end 32 chars)
    (λ k h. filled_cell_lem from end 32 chars k 0 h
    ∙ true_or_false (in_range from end k) (λ e. rw e) (λ e. rw e (get_d-within chars k 0 32 h)))

module _ (attrs : List ℕ) (from end i : ℕ) where
  protected_here : i < length attrs → protected_at attrs i ≡ eqb (protection (get_or attrs i 0)) 1
  unfolding protected_at
  protected_here c = rw (get_d-within attrs i 8 0 c)

  -- a cell of the range
  pub kept_cell : from ≤ i → i < end → i < length attrs → (x : ℕ)
      → (if eqb (protection (get_or attrs i 0)) 1 then x else 32) ≡ (if in_range from end i && not (guarded_at false attrs i) then 32 else x)
  kept_cell a b c x =
      let p : protected_at attrs i ≡ eqb (protection (get_or attrs i 0)) 1 = protected_here c in
      rw (in_range_lem from end i a b, p) (true_or_false (eqb (protection (get_or attrs i 0)) 1) (λ e. rw e) (λ e. rw e))

  -- a cell after the range, or without an attribute byte
  pub not_erased : min end (length attrs) ≤ i → (in_range from end i && not (guarded_at false attrs i)) ≡ false
  not_erased h =
      true_or_false (protected_at attrs i)
      (λ e. and_false (in_range from end i) (not (protected_at attrs i)) (rw e))
      (λ u. rw (after_range from end i (omega (arith, open_within attrs i u))))

-- ---- a range that lies in a list, and its text

-- the bounds of a range that passed the test: its start is not after its end, and neither is after the list's
module _ {inside : Bool} (t : inside ≡ true) (from end n : ℕ) (e : inside ≡ (leb from end && leb end n)) where
  pub lies_ordered : from ≤ end
  lies_ordered = leb-true from end (and_left (leb from end) (leb end n) (sym e ∙ t))

  pub lies_end : end ≤ n
  lies_end = leb-true end n (and_right (leb from end) (leb end n) (sym e ∙ t))

  pub lies_start : from ≤ n
  lies_start = omega (arith, lies_ordered, lies_end)

module _ (from end : ℕ) (xs : List ℕ) (e : lies from end xs ≡ true) where
  -- the text has a character for each cell of the range
  pub text_length : length (text_of from end xs) ≡ end - from
  text_length = length-take-le (end - from) (drop from xs) (rw length-drop (omega (arith, lies_end e from end (length xs) refl)))

  -- a character of the text, and what is read beyond its end
  pub text_cell : (j d : ℕ) → get_or (text_of from end xs) j d ≡ (if ltb (from + j) end then get_or xs (from + j) d else d)
  text_cell j d =
      either (λ x. get_or (text_of from end xs) j d ≡ x) (ltb (from + j) end)
      (λ p. let h = ltb-true (from + j) end p in get_or-take (end - from) (drop from xs) j d (omega arith) ∙ get_or-drop from xs j d)
      (λ p. let h = ltb-false (from + j) end p in get_or-eq_default (text_of from end xs) d {n = j} (omega (arith, text_length)))

-- ---- what the library's methods leave

-- a part whose elements moved, with spaces where none came
module _ (by : ℕ) (part moved : List ℕ) {s n : ℕ} (e : s ≡ min by (length part)) (m : n ≡ length part - s) (long : length moved ≡ length part) where
  -- in front, after a move towards its end
  pub inserted_all : {spaces : List ℕ} → spaces ≡ replicate (length (take s moved)) 32 → CopiedTo part moved 0 s n → spaces ++ drop s moved ≡ inserted by part
  unfolding inserted
  inserted_all {spaces} f c =
      let front : spaces ≡ replicate s 32 = rw (length-take-le s moved (omega arith)) at f in
      let fit : Replaces 0 s moved spaces = record { ordered = omega arith; within = omega arith; long = rw front (length-replicate s 32 ∙ omega arith) } in
      tabulated (inserted_cell by part) (spaces ++ drop s moved) (length part) 32 (replaced_length fit ∙ long)
      (λ k h. less_or_not k s
      (λ a. replaced_inside fit k 32 (omega arith) a ∙ rw (front, get_or-replicate {A = ℕ} s (k - 0) 32 32 (omega arith), lt-ltb k by (omega arith)))
      (λ a.
      let q : 0 + (k - s) ≡ k - by = omega arith in
      replaced_after fit k 32 a ∙ c k 32 a (omega arith) ∙ rw (q, le-ltb k by (omega arith))))

  -- at its end, after a move towards its start
  pub deleted_all : {spaces : List ℕ} {j : ℕ} → spaces ≡ replicate j 32 → j ≡ s → CopiedTo part moved s 0 n → put_mid n (length moved - n) moved spaces ≡ deleted by part
  unfolding deleted
  deleted_all {spaces} {j} f g c =
      let back : length spaces ≡ s = rw f (length-replicate j 32 ∙ g) in
      let fit : Replaces n (length moved) moved spaces = record { ordered = omega arith; within = omega arith; long = omega arith } in
      rw (Post-is n (length moved) moved (omega arith))
      (tabulated (deleted_cell by part) (take n moved ++ (spaces ++ drop (length moved) moved)) (length part) 32 (replaced_length fit ∙ long)
      (λ k h. less_or_not k n
      (λ a.
      let q : s + (k - 0) ≡ k + by = omega arith in
      replaced_before fit k 32 a ∙ c k 32 (omega arith) (omega arith) ∙ rw q)
      (λ a. replaced_inside fit k 32 a (omega arith)
      ∙ rw (f, get_or-replicate {A = ℕ} j (k - n) 32 32 (omega arith), get_or-eq_default part 32 {n = k + by} (omega arith)))))

-- a range filled, and one that has no cell
module _ (from end byte : ℕ) (bytes : List ℕ) {stop : ℕ} (e : stop ≡ min end (length bytes)) where
  pub filled_part : {part : List ℕ} {n : ℕ} → from < stop → n ≡ stop - from → part ≡ replicate n byte → put_mid from (stop - from) bytes part ≡ filled from end byte bytes
  unfolding filled
  filled_part {part} {n} h m f =
      let fit : Replaces from stop bytes part = record { ordered = omega arith; within = omega arith; long = rw f (length-replicate n byte ∙ m) } in
      rw (Post-is from stop bytes (omega arith))
      (tabulated (filled_cell from end byte bytes) (take from bytes ++ (part ++ drop stop bytes)) (length bytes) 0 (replaced_length fit)
      (λ k q. less_or_not k from
      (λ a. replaced_before fit k 0 a ∙ rw (before_range from end k a))
      (λ a. less_or_not k stop
      (λ b. replaced_inside fit k 0 a b ∙ rw (f, get_or-replicate {A = ℕ} n (k - from) byte 0 (omega arith), in_range_lem from end k a (omega arith)))
      (λ b. replaced_after fit k 0 b ∙ rw (after_range from end k (omega arith))))))

  pub filled_none : (from < stop → ⊥) → bytes ≡ filled from end byte bytes
  unfolding filled
  filled_none h =
      tabulated (filled_cell from end byte bytes) bytes (length bytes) 0 refl
      (λ k q. less_or_not k from (λ a. rw (before_range from end k a)) (λ a. rw (after_range from end k (omega arith))))

-- ---- an edit of the part in a range

module _ (from end : ℕ) (edit : List ℕ → List ℕ) (xs : List ℕ) where
  -- nothing happens where the range is not in the list
  pub on_part-none : lies from end xs ≡ false → on_part from end edit xs ≡ xs
  unfolding on_part
  on_part-none e = rw e

  -- by the tests of its ends
  pub put_none : ((from ≤ end) × (length xs < end)) ⊎ (end < from) → xs ≡ on_part from end edit xs
  put_none (inl p) = sym (on_part-none (and_false (leb from end) (leb end (length xs)) (lt-leb end (length xs) p.1)))
  put_none (inr p) = sym (on_part-none (rw (lt-leb from end p)))

  -- a part that was lent, and comes back edited
  pub put_part : (ys : List ℕ) → lies from end xs ≡ true → ys ≡ edit (text_of from end xs) → put_mid from (end - from) xs ys ≡ on_part from end edit xs
  unfolding on_part
  put_part ys e q = rw (e, q, Post-is from end xs (lies_ordered e from end (length xs) refl))

module _ (from end : ℕ) (edit : List ℕ → List ℕ) (keeps : (p : List ℕ) → length (edit p) ≡ length p) (xs : List ℕ) where
  fit : lies from end xs ≡ true → Replaces from end xs (edit (text_of from end xs))
  fit e = record {
    ordered = lies_ordered e from end (length xs) refl;
    within = lies_end e from end (length xs) refl;
    long = keeps (text_of from end xs) ∙ text_length from end xs e;
  }

  -- what holds of the list with its part edited, and of the list as it was
  whole : (P : List ℕ → Type 0) → (lies from end xs ≡ true → P (take from xs ++ (edit (text_of from end xs) ++ drop end xs))) → P xs → P (on_part from end edit xs)
  unfolding on_part
  whole P p q = either P (lies from end xs) p (λ e. q)

  -- the length is kept
  pub on_part-length : length (on_part from end edit xs) ≡ length xs
  on_part-length = whole (λ l. length l ≡ length xs) (λ e. replaced_length (fit e)) refl

  module _ (i d : ℕ) where
    -- a cell before the range is as it was
    pub on_part-before : i < from → get_or (on_part from end edit xs) i d ≡ get_or xs i d
    on_part-before h = whole (λ l. get_or l i d ≡ get_or xs i d) (λ e. replaced_before (fit e) i d h) refl

    -- a cell after the range is as it was
    pub on_part-after : end ≤ i → get_or (on_part from end edit xs) i d ≡ get_or xs i d
    on_part-after h = whole (λ l. get_or l i d ≡ get_or xs i d) (λ e. replaced_after (fit e) i d h) refl

    -- a cell in the range is that of the edited text
    pub on_part-inside : lies from end xs ≡ true → from ≤ i → i < end → get_or (on_part from end edit xs) i d ≡ get_or (edit (text_of from end xs)) (i - from) d
    unfolding on_part
    on_part-inside e a b = rw e (replaced_inside (fit e) i d a b)

-- ---- the shifts, by the cells of the whole list

module _ (from end by : ℕ) (xs : List ℕ) (e : lies from end xs ≡ true) (i : ℕ) (a : from ≤ i) (b : i < end) where
  place : i - from < length (text_of from end xs)
  place = omega (arith, text_length from end xs e)

  -- a cell of the range after a deletion at its start
  pub delete_cell : get_or (on_part from end (deleted by) xs) i 32 ≡ (if ltb (i + by) end then get_or xs (i + by) 32 else 32)
  delete_cell =
      let k : from + (i - from + by) ≡ i + by = omega arith in
      on_part-inside from end (deleted by) (deleted_length by) xs i 32 e a b
      ∙ deleted_cell_lem by (text_of from end xs) (i - from) 32 place
      ∙ rw (text_cell from end xs e (i - from + by) 32, k)

  -- a cell of the range after an insertion at its start
  pub insert_cell : get_or (on_part from end (inserted by) xs) i 32 ≡ (if ltb i (from + by) then 32 else get_or xs (i - by) 32)
  insert_cell =
      on_part-inside from end (inserted by) (inserted_length by) xs i 32 e a b
      ∙ inserted_cell_lem by (text_of from end xs) (i - from) 32 place
      ∙ true_or_false (ltb i (from + by))
      (λ p. let h = ltb-true i (from + by) p in rw (p, lt-ltb (i - from) by (omega arith)))
      (λ p.
      let h = ltb-false i (from + by) p in
      let k : from + (i - from - by) ≡ i - by = omega arith in
      rw (p, le-ltb (i - from) by (omega arith), text_cell from end xs e (i - from - by) 32, k, lt-ltb (i - by) end (omega arith)))

-- ---- a text in a reply

module _ {chars reply : List ℕ} {from end at : ℕ} where
  -- where a text can be copied, the reply and the next place are known
  pub copied_whole : {reply' : List ℕ} {at' : ℕ} → Copied chars reply from end at reply' at' → can_copy chars reply from end at ≡ true
      → (reply' ≡ paste reply at (drop from chars) (end - from)) × (at' ≡ at + (end - from))
  copied_whole c e = (c.bytes ∙ rw e, c.next ∙ rw e)

-- ---- the whole screen

-- every cell erased is spaces
pub all_spaces : (attrs chars : List ℕ) → erased true chars attrs 0 (length chars) ≡ replicate (length chars) 32
unfolding erased
all_spaces attrs chars =
    sym (tabulated (erased_cell true chars attrs 0 (length chars)) (replicate (length chars) 32) (length chars) 0 (length-replicate _ 32)
    (λ k h. get_or-replicate _ k 32 0 h ∙ rw (in_range_lem 0 (length chars) k (omega arith) h)))

-- 29: every attribute byte written 0; 27, 29 and 35: every mark
pub all_zeros : (bytes : List ℕ) → filled 0 (length bytes) 0 bytes ≡ replicate (length bytes) 0
unfolding filled
all_zeros bytes =
    sym (tabulated (filled_cell 0 (length bytes) 0 bytes) (replicate (length bytes) 0) (length bytes) 0 (length-replicate _ 0)
    (λ k h. get_or-replicate _ k 0 0 h ∙ rw (in_range_lem 0 (length bytes) k (omega arith) h)))

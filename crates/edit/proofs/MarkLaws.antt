-- Laws of a range with a marked cell, by a scan that has come to a cell of it.
use Rattle.std.proofs.Common.{◌≡◌, refl, sym, ◌∙◌, Bool, true, false, ◌||◌, List, ℕ, zero, suc, ◌+◌, ◌-◌, ◌≤◌, ◌<◌, min, add-one, arith, drop-cons, lt-ltb, le-ltb, length, take, drop, eqb, ltb}
use lib.ListN.{get_or-eq_default}
use Rattle.std.specs.List.{list_any}
use Rattle.words.proofs.Laws.{true_or_false, less_or_not}
use Rattle.screen.proofs.WordLaws.{first_hit, first_skip, first_skips, first_end}
use Rattle.edit.specs.Edits.{marked_at, some_marked}

-- what has been found, and what is still found from the next cell on
module _ (marks : List ℕ) (i end : ℕ) where
  marked_next : (found : Bool) → i < end → ((found || marked_at marks i) || some_marked marks (i + 1) end) ≡ (found || some_marked marks i end)
  unfolding some_marked
  marked_next true h = refl
  marked_next false h =
      true_or_false (marked_at marks i)
      (λ e. rw (e, first_hit (marked_at marks) end i end h e, lt-ltb i end h))
      (λ e. rw (e, first_skip (marked_at marks) end i end h e))

  -- a cell past the marks is not marked
  unmarked : (k : ℕ) → length marks ≤ k → marked_at marks k ≡ false
  unmarked k h = rw (get_or-eq_default marks 0 {n = k} h)

  -- nothing is left at the end of the range, or of the marks
  marked_end : (found : Bool) → min end (length marks) ≤ i → (found || some_marked marks i end) ≡ found
  unfolding some_marked
  marked_end true h = refl
  marked_end false h =
      less_or_not i end
      (λ l.
      let e : i + (end - i) ≡ end = omega arith in
      rw (first_skips (marked_at marks) end (end - i) i end (omega arith) (λ k a b. unmarked k (omega arith)), e, first_end (marked_at marks) end end end (omega arith))
      (le-ltb end end (omega arith)))
      (λ l. rw (first_end (marked_at marks) end i end l) (le-ltb end end (omega arith)))

-- the n cells from i on, which are all that is left of the range or of the marks
marked_any : (marks : List ℕ) (end n i : ℕ) → i + n ≡ min end (length marks) → list_any (λ m. eqb m 1) (take n (drop i marks)) ≡ some_marked marks i end
marked_any marks end zero i e = sym (marked_end marks i end false (omega arith))
marked_any marks end (suc n) i e =
    rw (drop-cons marks i 0 (omega arith), ← add-one i) (rw (marked_any marks end n (i + 1) (omega arith)) (marked_next marks i end false (omega arith)))

-- a part of the marks has a marked cell where its range has one; a range without a part has none
module _ (marks : List ℕ) (from end : ℕ) {stop : ℕ} (e : stop ≡ min end (length marks)) where
  pub marked_part : {found : Bool} → from < stop → found ≡ list_any (λ m. eqb m 1) (take (stop - from) (drop from marks)) → found ≡ some_marked marks from end
  marked_part h f = f ∙ marked_any marks end (stop - from) from (omega arith)

  pub marked_none : stop ≤ from → ltb from stop ≡ some_marked marks from end
  marked_none h = le-ltb from stop h ∙ sym (marked_end marks from end false (omega arith))

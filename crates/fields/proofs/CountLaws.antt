-- Laws of the count of the field starts.
use Rattle.std.proofs.Common.{◌≡◌, refl, sym, ◌∙◌, true, false, not, List, ℕ, zero, suc, ◌+◌, ◌-◌, ◌≤◌, ◌<◌, arith, add-one, eq-eqb, eqb, length, get_or}
use Rattle.std.specs.Int.{from_bool}
use Rattle.words.proofs.Laws.{either, true_or_false, less_or_not, get_d-within}
use Rattle.screen.specs.Fields.{starts_at, field_end}
use Rattle.screen.proofs.FieldLaws.{starts_after, rest_equal}
use Rattle.fields.specs.Inner.Starts.{starts_before}

module _ (attrs : List ℕ) where
  -- not more starts than cells, and not fewer further on
  pub starts_few : (i : ℕ) → starts_before attrs i ≤ i
  unfolding starts_before
  starts_few zero = omega arith
  starts_few (suc i) = either (λ o. o ≤ suc i) (starts_at attrs i) (λ e. omega (arith, starts_few i)) (λ e. omega (arith, starts_few i))

  starts_grow : (i j : ℕ) → i ≤ j → starts_before attrs i ≤ starts_before attrs j
  unfolding starts_before
  starts_grow i zero h = let z : i ≡ 0 = omega arith in rw z (omega arith)
  starts_grow i (suc j) h =
      less_or_not i (suc j)
      (λ l. either (λ o. starts_before attrs i ≤ o) (starts_at attrs j) (λ e. omega (arith, starts_grow i j (omega arith)))
      (λ e. starts_grow i j (omega arith)))
      (λ l. let z : i ≡ suc j = omega arith in rw z (omega arith))

  -- past a start it is counted
  start_counts : (i : ℕ) → starts_at attrs i ≡ true → starts_before attrs (suc i) ≡ suc (starts_before attrs i)
  unfolding starts_before
  start_counts i s = rw s

  pub starts_more : (i j : ℕ) → starts_at attrs i ≡ true → i < j → starts_before attrs i < starts_before attrs j
  starts_more i j s h = omega (arith, start_counts i s, starts_grow (suc i) j h)

  -- in a field only its first cell is
  pub none_within : (at k : ℕ) → at < k → k < field_end attrs at → starts_at attrs k ≡ false
  none_within at k lo hi =
      starts_after attrs k (λ z. omega arith)
      ∙ rw (eq-eqb _ _ (rest_equal attrs at (k - 1) (omega arith) (omega arith) ∙ sym (rest_equal attrs at k (omega arith) hi)))

  pub one_start : (at j : ℕ) → starts_at attrs at ≡ true → at < j → j ≤ field_end attrs at → starts_before attrs j ≡ starts_before attrs at + 1
  unfolding starts_before
  one_start at zero s lo hi = absurd (omega arith)
  one_start at (suc j) s lo hi =
      less_or_not at j
      (λ l. rw (none_within at j l (omega arith)) (one_start at j s l (omega arith)))
      (λ l. let z : j ≡ at = omega arith in rw (z, s, add-one))

  -- the first cell, and then cell by cell
  pub first_starts : starts_before attrs 1 ≡ 1
  unfolding starts_before starts_at
  first_starts = refl

  pub starts_next : (i : ℕ) → 0 < i → i < length attrs
      → starts_before attrs (i + 1) ≡ starts_before attrs i + from_bool (not (eqb (get_or attrs (i - 1) 0) (get_or attrs i 0)))
  unfolding starts_before
  starts_next i some h =
      let e = starts_after attrs i (λ z. omega arith) in
      rw (add-one i, starts_before, e, get_d-within attrs (i - 1) 8 0 (omega arith), get_d-within attrs i 8 0 h)
      (true_or_false (eqb (get_or attrs (i - 1) 0) (get_or attrs i 0)) (λ p. rw p (omega arith)) (λ p. rw p (omega arith)))

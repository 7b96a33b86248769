-- Laws of the first and the last number that passes a test.
use Rattle.std.proofs.Common.{◌≡◌, refl, sym, ap, ◌∙◌, Bool, true, false, ℕ, zero, suc, ◌+◌, ◌-◌, ◌≤◌, ◌<◌, min, add-zero, zero-add, add-suc, suc-add, add-one, arith, ltb-false, ltb, if◌then◌else◌}
use Rattle.words.proofs.Laws.{either, true_or_false, less_or_not}
use Rattle.screen.specs.Words.{first_of, last_of}

module _ (test : ℕ → Bool) (none : ℕ) where
  first_next : (i n : ℕ) → i < n → n - i ≡ suc (n - (i + 1))
  first_next i n h = omega arith

  -- of the numbers from i up to n: i passes, i does not, there are none
  pub first_hit : (i n : ℕ) → i < n → test i ≡ true → first_of test none i (n - i) ≡ i
  unfolding first_of
  first_hit i n h e = rw (first_next i n h, first_of, e)

  pub first_skip : (i n : ℕ) → i < n → test i ≡ false → first_of test none i (n - i) ≡ first_of test none (i + 1) (n - (i + 1))
  unfolding first_of
  first_skip i n h e = rw (first_next i n h, first_of, e, add-one)

  pub first_end : (i n : ℕ) → n ≤ i → first_of test none i (n - i) ≡ none
  unfolding first_of
  first_end i n h = let e : n - i ≡ 0 = omega arith in rw (e, first_of)

  pub first_below : (i n : ℕ) (b : ℕ) → i + n ≤ b → none < b → first_of test none i n < b
  unfolding first_of
  first_below i zero b h k = k
  first_below i (suc n) b h k = either (λ o. o < b) (test i) (λ e. omega arith) (λ e. first_below (suc i) n b (omega arith) k)

  pub last_below : (n b : ℕ) → n ≤ b → none < b → last_of test none n < b
  unfolding last_of
  last_below zero b h k = k
  last_below (suc n) b h k = either (λ o. o < b) (test n) (λ e. omega arith) (λ e. last_below n b (omega arith) k)

  -- of the n numbers from 0 on, the last passes
  pub last_hit : (n : ℕ) → 0 < n → test (n - 1) ≡ true → last_of test none n ≡ n - 1
  unfolding last_of
  last_hit zero h e = absurd (omega arith)
  last_hit (suc n) h e = let k : suc n - 1 ≡ n = omega arith in rw (k, rw k at e)

  -- n of them that do not pass, from i on and before the rest; and from k on, after the rest
  pub first_skips : (n i end : ℕ) → i + n ≤ end → ((k : ℕ) → i ≤ k → k < i + n → test k ≡ false)
      → first_of test none i (end - i) ≡ first_of test none (i + n) (end - (i + n))
  first_skips zero i end h p = rw add-zero
  first_skips (suc n) i end h p =
      let e : i + suc n ≡ i + 1 + n = omega arith in
      rw e (first_skip i end (omega arith) (p i (omega arith) (omega arith)) ∙ first_skips n (i + 1) end (omega arith) (λ k a b. p k (omega arith) (omega arith)))

  -- none of them passes; none after the first m
  first_none : (i n : ℕ) → ((k : ℕ) → i ≤ k → k < i + n → test k ≡ false) → first_of test none i n ≡ none
  unfolding first_of
  first_none i zero p = refl
  first_none i (suc n) p = rw (p i (omega arith) (omega arith)) (first_none (suc i) n (λ k a b. p k (omega arith) (omega arith)))

  first_cut : (i m d : ℕ) → ((k : ℕ) → i + m ≤ k → k < i + m + d → test k ≡ false) → first_of test none i (m + d) ≡ first_of test none i m
  unfolding first_of
  first_cut i zero d p = rw zero-add (first_none i d (λ k a b. p k (omega arith) (omega arith)))
  first_cut i (suc m) d p =
      rw suc-add (ap (λ r. if test i then i else r) (first_cut (suc i) m d (λ k a b. p k (omega arith) (omega arith))))

  pub last_skips : (n k : ℕ) → ((i : ℕ) → k ≤ i → i < k + n → test i ≡ false) → last_of test none (k + n) ≡ last_of test none k
  unfolding last_of
  last_skips zero k p = rw add-zero
  last_skips (suc n) k p =
      rw (add-suc k n, last_of, p (k + n) (omega arith) (omega arith)) (last_skips n k (λ i a b. p i a (omega arith)))

  -- what a scan finds passes
  pub first_passes : (i n : ℕ) → first_of test none i n < none → test (first_of test none i n) ≡ true
  unfolding first_of
  first_passes i zero h = absurd (omega arith)
  first_passes i (suc n) h = either (λ o. o < none → test o ≡ true) (test i) (λ e q. e) (λ e. first_passes (suc i) n) h

  pub last_passes : (n : ℕ) → test none ≡ true → test (last_of test none n) ≡ true
  unfolding last_of
  last_passes zero h = h
  last_passes (suc n) h = either (λ o. test o ≡ true) (test n) (λ e. e) (λ e. last_passes n h)

  -- what it goes past does not
  pub first_past : (i n k : ℕ) → none ≤ i + n → i ≤ k → k < first_of test none i n → test k ≡ false
  unfolding first_of
  first_past i zero k b h q = absurd (omega arith)
  first_past i (suc n) k b h q =
      either (λ o. k < o → test k ≡ false) (test i) (λ e q. absurd (omega arith))
      (λ e q. less_or_not i k (λ l. first_past (suc i) n k (omega arith) l q) (λ l. let s : k ≡ i = omega arith in rw s e)) q

  pub last_past : (n k : ℕ) → last_of test none n < k → k < n → test k ≡ false
  unfolding last_of
  last_past zero k q h = absurd (omega arith)
  last_past (suc n) k q h =
      either (λ o. o < k → test k ≡ false) (test n) (λ e q. absurd (omega arith))
      (λ e q. less_or_not k n (λ l. last_past n k q l) (λ l. let s : k ≡ n = omega arith in rw s e)) q

  -- where the first that passes is none of them, none passes
  pub none_passes : (i n k : ℕ) → ltb (first_of test none i n) none ≡ false → none ≤ i + n → i ≤ k → k < none → test k ≡ false
  none_passes i n k e b lo hi = first_past i n k b lo (omega (arith, ltb-false (first_of test none i n) none e))

  -- and it answers nothing below its start
  pub first_above : (i n b : ℕ) → b ≤ i → b ≤ none → b ≤ first_of test none i n
  unfolding first_of
  first_above i zero b h k = k
  first_above i (suc n) b h k = either (λ o. b ≤ o) (test i) (λ e. h) (λ e. first_above (suc i) n b (omega arith) k)

-- what is found does not depend on the answer where nothing is
first_found : (test : ℕ → Bool) (none other i n : ℕ) → first_of test none i n < none → first_of test other i n ≡ first_of test none i n
unfolding first_of
first_found test none other i zero h = absurd (omega arith)
first_found test none other i (suc n) h =
    true_or_false (test i) (λ e. rw e) (λ e. rw e (first_found test none other (suc i) n (rw e at h)))

-- Around n numbers from i on: one is found before the end, and it is the answer; or none, and those before i are left.
module _ (test : ℕ → Bool) (none i n : ℕ) where
  pub around_found : first_of test n i (n - i) < n → first_of test n i (n - i) ≡ first_of test (first_of test none 0 (n - 0)) i (n - i)
  around_found h = sym (first_found test n (first_of test none 0 (n - 0)) i (n - i) h)

  pub around_left : n ≤ first_of test n i (n - i) → first_of test none 0 (min i n - 0) ≡ first_of test (first_of test none 0 (n - 0)) i (n - i)
  around_left h =
      let past : (k : ℕ) → min i n ≤ k → k < n → test k ≡ false =
      λ k a b. first_past test n i (n - i) k (omega arith) (omega arith) (omega arith) in
      let all : n - 0 ≡ min i n + (n - min i n) = omega arith in
      let few : min i n - 0 ≡ min i n = omega arith in
      rw (few, first_none test (first_of test none 0 (n - 0)) i (n - i) (λ k a b. past k (omega arith) (omega arith)), all)
      (sym (first_cut test none 0 (min i n) (n - min i n) (λ k a b. past k (omega arith) (omega arith))))

-- Laws of lists by their elements: one that a loop stores into, and one whose part is replaced.
use Rattle.std.proofs.Common.{◌≡◌, ap, ◌∙◌, Bool, true, false, List, ◌++◌, ℕ, ◌+◌, ◌-◌, ◌≤◌, ◌<◌, arith, eqb-true, lt-ltb, le-ltb, le-leb, eqb, ltb, leb, length, get_or, set, take, drop, length-set, length-append, length-drop, get_or-set_same, get_or-set_other, get_or-append-add, get_or-take, get_or-drop, length-take-le, if◌then◌else◌}
use borrow.Author.Tests.{eqb-false, lt-leb}
use lib.ListN.{get_or-append}
use Rattle.words.specs.Words.{tabulate}
use Rattle.screen.specs.Words.{in_range}
use Rattle.words.proofs.Laws.{true_or_false, less_or_not, and_false, get_d-within, tabulated}

-- ---- a loop that stores v at each place that passes a test, and at the others what stood there

-- it has come to i
pub record Storing (test : ℕ → Bool) (v d : ℕ) (s₀ : List ℕ) (i : ℕ) (s : List ℕ) : Type 0 where
  pub long : length s ≡ length s₀
  pub below : (k : ℕ) → k < i → k < length s₀ → get_or s k 0 ≡ (if test k then v else get_or s₀ k d)
  pub above : (k : ℕ) → i ≤ k → k < length s₀ → get_or s k 0 ≡ get_or s₀ k 0

-- what stands at k after a store at j
after_set : (s : List ℕ) (j v k x : ℕ) → j < length s → (k ≡ j → v ≡ x) → ((k ≡ j → ⊥) → get_or s k 0 ≡ x) → get_or (set s j v) k 0 ≡ x
after_set s j v k x h same other =
    true_or_false (eqb k j)
    (λ e. let q = eqb-true k j e in rw q (get_or-set_same s j v 0 h ∙ same q))
    (λ e. let q = eqb-false k j e in get_or-set_other s j k v 0 q ∙ other q)

-- an element that does not pass is kept
kept : (s : List ℕ) (k d v : ℕ) (b : Bool) → k < length s → b ≡ false → get_or s k 0 ≡ (if b then v else get_or s k d)
kept s k d v b h e = rw e (get_d-within s k 0 d h)

module _ {test : ℕ → Bool} {v d i : ℕ} {s₀ s : List ℕ} (m : Storing test v d s₀ i s) where
  -- the store at i
  pub storing_either : i < length s₀ → {w : ℕ} → w ≡ (if test i then v else get_or s i 0) → Storing test v d s₀ (i + 1) (set s i w)
  storing_either h {w} e =
      let here = e ∙ ap (λ r. if test i then v else r) (m.above i (omega arith) h ∙ get_d-within s₀ i 0 d h) in record {
        long = length-set s i w ∙ m.long;
        below = λ k a b. after_set s i w k _ (omega arith) (λ q. rw q here) (λ q. m.below k (omega arith) b);
        above = λ k a b. after_set s i w k _ (omega arith) (λ q. absurd (omega arith)) (λ q. m.above k (omega arith) b);
      }

  -- no place that is left passes
  pub storing_end : ((k : ℕ) → i ≤ k → k < length s₀ → test k ≡ false) → s ≡ tabulate (λ k. if test k then v else get_or s₀ k d) 0 (length s₀)
  storing_end none =
      tabulated (λ k. if test k then v else get_or s₀ k d) s (length s₀) 0 m.long
      (λ k h. less_or_not k i (λ a. m.below k a h) (λ a. m.above k a h ∙ kept s₀ k d v (test k) h (none k a h)))

-- a place in a range, before it, after it
module _ (from end k : ℕ) where
  pub in_range_lem : from ≤ k → k < end → in_range from end k ≡ true
  in_range_lem a b = rw (le-leb from k a, lt-ltb k end b)

  pub before_range : k < from → in_range from end k ≡ false
  before_range h = rw (lt-leb from k h)

  pub after_range : end ≤ k → in_range from end k ≡ false
  after_range h = and_false (leb from k) (ltb k end) (le-ltb k end h)

-- ---- a list whose part from `from` up to `end` is replaced by one as long

pub record Replaces (from end : ℕ) (xs part : List ℕ) : Type 0 where
  pub ordered : from ≤ end
  pub within : end ≤ length xs
  pub long : length part ≡ end - from

get_d_past : (xs ys : List ℕ) (n i d : ℕ) → length xs ≡ n → n ≤ i → get_or (xs ++ ys) i d ≡ get_or ys (i - n) d
get_d_past xs ys n i d e h =
    let q : length xs + (i - n) ≡ i = omega arith in
    rw q at (get_or-append-add xs ys (i - n) d)

module _ {from end : ℕ} {xs part : List ℕ} (fit : Replaces from end xs part) where
  head : length (take from xs) ≡ from
  head = length-take-le from xs (omega arith)

  pub replaced_length : length (take from xs ++ (part ++ drop end xs)) ≡ length xs
  replaced_length = simp (length-append, head, fit.long, length-drop) (omega arith)

  module _ (i d : ℕ) where
    pub replaced_before : i < from → get_or (take from xs ++ (part ++ drop end xs)) i d ≡ get_or xs i d
    replaced_before h = get_or-append (take from xs) _ d i (omega (arith, head)) ∙ get_or-take from xs i d h

    pub replaced_inside : from ≤ i → i < end → get_or (take from xs ++ (part ++ drop end xs)) i d ≡ get_or part (i - from) d
    replaced_inside h k = get_d_past (take from xs) _ from i d head h ∙ get_or-append part _ d (i - from) (omega arith)

    pub replaced_after : end ≤ i → get_or (take from xs ++ (part ++ drop end xs)) i d ≡ get_or xs i d
    replaced_after h =
        get_d_past (take from xs) _ from i d head (omega arith)
        ∙ get_d_past part _ (end - from) (i - from) d fit.long (omega arith)
        ∙ get_or-drop end xs (i - from - (end - from)) d
        ∙ ap (λ k. get_or xs k d) (omega arith)

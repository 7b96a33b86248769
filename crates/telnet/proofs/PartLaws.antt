-- Laws of parts of a list: from one place up to another.
use Rattle.std.proofs.Common.{ℕ, ◌+◌, ◌-◌, ◌≤◌, ◌<◌, arith, ◌≡◌, sym, ap, ◌∙◌, List, [], ◌∷◌, ◌++◌, length, get_or, drop, take-append-drop, take-add, drop-cons, drop-drop}
use Rattle.telnet.specs.Stream.{part}

module _ (from : ℕ) (xs : List ℕ) where
  pub part_none : part from from xs ≡ []
  part_none = let none : from - from ≡ 0 = omega arith in rw none

  pub part_one : from < length xs → part from (from + 1) xs ≡ get_or xs from 0 ∷ []
  part_one h = let one : from + 1 - from ≡ 1 = omega arith in rw (one, drop-cons xs from 0 h)

-- one part, and the next
pub part_then : {from mid end : ℕ} (xs : List ℕ) → from ≤ mid → mid ≤ end → part from end xs ≡ part from mid xs ++ part mid end xs
part_then {from} {mid} {end} xs a b =
    let long : end - from ≡ (mid - from) + (end - mid) = omega arith in
    let here : from + (mid - from) ≡ mid = omega arith in
    rw (long, take-add, drop-drop, here)

-- a part, and what is left after it
pub part_rest : {from end : ℕ} (xs : List ℕ) → from ≤ end → part from end xs ++ drop end xs ≡ drop from xs
part_rest {from} {end} xs a =
    let here : end ≡ from + (end - from) = omega arith in
    let rest : drop end xs ≡ drop (end - from) (drop from xs) = ap (λ (k : ℕ). drop k xs) here ∙ sym (drop-drop (end - from) from xs) in
    rw rest (take-append-drop (end - from) (drop from xs))

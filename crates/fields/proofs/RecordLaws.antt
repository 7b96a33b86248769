-- Laws of unused records, and of the list written anew.
use Rattle.std.proofs.Common.{◌≡◌, refl, ap, ◌∙◌, Bool, true, ◌&&◌, List, ◌∷◌, ◌++◌, append_assoc, append-nil, ℕ, zero, suc, ◌+◌, ◌-◌, ◌≤◌, ◌<◌, min, arith, add-one, lt-ltb, le-ltb, ne_eqb, eqb-true, bit_or, eqb, ltb, length, length-drop, replicate, get_or, set, take, drop, drop_of_length-le, length-set, drop-cons, take_all, take-suc-set}
use borrow.Author.Tests.{eqb-false}
use borrow.Rule.Slice.PartMut.{put_mid, Post-is}
use lib.Bits.{or_zero_l, or_add_and, and_le_r}
use Rattle.std.proofs.Math.Bool.{and_assoc}
use Rattle.std.proofs.lemmas.List.{drop_min, length-take}
use Rattle.words.proofs.Laws.{true_or_false, and_true}
use Rattle.screen.specs.Fields.{field_end}
use Rattle.screen.specs.FieldList.{unused, record_of, fields_from, fields_of, agrees}
use Rattle.screen.specs.declared.record.FieldRecord.{FieldRecord}
use Rattle.screen.proofs.FieldLaws.{end_gt}
use Rattle.screen.proofs.FieldListLaws.{past_end, agrees_own, fields_from-length}
use Rattle.fields.specs.Rebuilt.{rebuilt}
use Rattle.fields.specs.Inner.Records.{joined, is_unused, all_unused}

-- ---- unused records

-- a number of many bits is 0 where both of its parts are
or_none : (a b : ℕ) → eqb (bit_or a b) 0 ≡ (eqb a 0 && eqb b 0)
or_none a b =
    true_or_false (eqb a 0)
    (λ p. rw (p, eqb-true a 0 p, or_zero_l b))
    (λ p. rw p (ne_eqb (bit_or a b) 0 (λ z. eqb-false a 0 p (omega (arith, or_add_and a b, and_le_r a b, z)))))

joined_none : (said : FieldRecord) → eqb (joined said) 0 ≡ is_unused said
joined_none said =
    true_or_false (eqb said.start 0)
    (λ p. true_or_false (eqb said.length 0)
    (λ q. rw (p, q, eqb-true said.start 0 p, eqb-true said.length 0 q))
    (λ q. rw (p, q) (ne_eqb (joined said) 0 (λ z. eqb-false said.length 0 q (omega (arith, z))))))
    (λ p. rw p (ne_eqb (joined said) 0 (λ z. eqb-false said.start 0 p (omega (arith, z)))))

pub or_unused : (any : ℕ) (said : FieldRecord) → eqb (bit_or any (joined said)) 0 ≡ (eqb any 0 && is_unused said)
or_unused any said = or_none any (joined said) ∙ rw (joined_none said)

-- the record at k is looked at, and those behind it are left; and none is left
pub unused_next : (xs : List FieldRecord) (k : ℕ) (any more : Bool) → k < length xs → more ≡ (any && is_unused (get_or xs k unused))
    → (more && all_unused (drop (k + 1) xs)) ≡ (any && all_unused (drop k xs))
unfolding all_unused
unused_next xs k any more h e =
    rw (e, drop-cons xs k unused h, add-one k) (and_assoc any (is_unused (get_or xs k unused)) (all_unused (drop (suc k) xs)))

pub unused_end : (xs : List FieldRecord) (k : ℕ) (any : Bool) → length xs ≤ k → (any && all_unused (drop k xs)) ≡ any
unfolding all_unused
unused_end xs k any h = rw (drop_of_length-le xs {i = k} h) (and_true any)

-- ---- the list written anew
module _ (attrs : List ℕ) where
  -- the list zs with its first k records written, and behind them what is still to be written, from the field at the cell on
  abbrev pub to_be : List FieldRecord → ℕ → ℕ → List FieldRecord
  to_be zs k cell = take k zs ++ fields_from (length zs - k) attrs cell

  pub to_be-first : (zs : List FieldRecord) → to_be zs 0 0 ≡ fields_of (length zs) attrs
  to_be-first zs = let a : length zs - 0 ≡ length zs = omega arith in rw a

  pub to_be-next : (zs : List FieldRecord) (k cell : ℕ) → k < length zs → cell < length attrs
      → to_be (set zs k (record { start = cell; length = field_end attrs cell - cell })) (k + 1) (field_end attrs cell) ≡ to_be zs k cell
  unfolding fields_from
  to_be-next zs k cell h some =
      let f : FieldRecord = record { start = cell; length = field_end attrs cell - cell } in
      let n : length zs - k ≡ suc (length zs - (k + 1)) = omega (arith, h) in
      rw (n, length-set zs k f, add-one k, take-suc-set zs k f h, append_assoc, lt-ltb cell (field_end attrs cell) (end_gt attrs cell some))

  -- behind the last field, zeros
  zeros_from : (n cell : ℕ) → length attrs ≤ cell → fields_from n attrs cell ≡ replicate n unused
  unfolding fields_from
  zeros_from zero cell h = refl
  zeros_from (suc n) cell h =
      let e = past_end attrs cell h in
      rw (e, le-ltb cell (length attrs) h) (ap (λ xs. unused ∷ xs) (zeros_from n (length attrs) (omega arith)))

  pub to_be-zeros : (zs part : List FieldRecord) (k cell : ℕ) → k ≤ length zs → length attrs ≤ cell
      → part ≡ replicate (length (take (length zs - k) (drop k zs))) unused → put_mid k (length zs - k) zs part ≡ to_be zs k cell
  to_be-zeros zs part k cell h far e =
      let n : min (length zs - k) (length zs - k) ≡ length zs - k = omega arith in
      rw (
        Post-is k (length zs) zs h,
        e,
        length-take,
        length-drop,
        n,
        drop_of_length-le zs {i = length zs} (omega arith),
        append-nil,
        zeros_from (length zs - k) cell far,
      )

  pub to_be-end : (zs : List FieldRecord) (k cell : ℕ) → length zs ≤ k → to_be zs k cell ≡ zs
  unfolding fields_from
  to_be-end zs k cell h =
      let n : length zs - k ≡ 0 = omega (arith, h) in
      rw (n, take_all k zs h, append-nil)

  -- fewer records of the fields are the first of more
  fields_less : (m n cell : ℕ) → take m (fields_from n attrs cell) ≡ fields_from (min m n) attrs cell
  unfolding fields_from
  fields_less zero n cell = let a : min 0 n ≡ 0 = omega arith in rw a
  fields_less (suc m) zero cell = let a : min (suc m) 0 ≡ 0 = omega arith in rw a
  fields_less (suc m) (suc n) cell =
      let a : min (suc m) (suc n) ≡ suc (min m n) = omega arith in
      rw a (ap (λ xs. record_of cell (field_end attrs cell) ∷ xs) (fields_less m n (field_end attrs cell)))

  -- the first records written, and the others as they are
  pub rebuilt_first : (list part : List FieldRecord) (count end : ℕ) → length attrs ≤ 8448 → end ≡ min count (length list)
      → part ≡ fields_of (length (take end list)) attrs → part ++ drop end list ≡ rebuilt count attrs list
  rebuilt_first list part count end small e p =
      let n : min end (length list) ≡ end = omega (arith, e) in
      rw (p, length-take, n, e, le-ltb 8448 (length attrs) small, fields_less count (length list) 0, drop_min)

  -- enough records were asked for, or none
  pub rebuilt_all : (list : List FieldRecord) (count : ℕ) → length attrs ≤ 8448 → length list ≤ count
      → rebuilt count attrs list ≡ fields_of (length list) attrs
  rebuilt_all list count small h =
      rw (
        le-ltb 8448 (length attrs) small,
        take_all count (fields_of (length list) attrs) (omega (arith, fields_from-length (length list) attrs 0, h)),
        drop_of_length-le list {i = count} h,
        append-nil,
      )

  pub rebuilt_none : (list : List FieldRecord) → rebuilt 0 attrs list ≡ list
  rebuilt_none list = true_or_false (ltb 8448 (length attrs)) (λ e. rw e) (λ e. rw e)

  -- the list that was written agrees
  pub rebuilt_agrees : (list : List FieldRecord) (count : ℕ) → length attrs ≤ 8448 → length attrs ≤ length list → length list ≤ count
      → agrees (rebuilt count attrs list) attrs ≡ true
  rebuilt_agrees list count small room h = rw (rebuilt_all list count small h) (agrees_own attrs (length list) room)

pub ruleset writing = (to_be-first, to_be-next, to_be-end, end_gt)

-- Document 02, request (vii): the list of form F and what it answers, worked out.
use Rattle.std.proofs.Common.{◌≡◌, refl, true, false, List, [], ◌∷◌, ◌++◌, ℕ, replicate, None}
use Rattle.screen.specs.Words.{first_of, last_of}
use Rattle.screen.specs.Attributes.{protected_at}
use Rattle.screen.specs.Fields.{starts_at, opens_at, field_start, field_end}
use Rattle.screen.specs.FieldList.{unused, fields_from, fields_of, agrees_from, too_short, agrees, opens_before, found_by_reading, found, found_from, found_by_list}
use Rattle.screen.specs.declared.record.FieldRecord.{FieldRecord}

abbrev field : ℕ → ℕ → FieldRecord
field start length = record { start = start; length = length }

-- form F, 8 by 2: "70 " and "mg " have attribute 0, the rest 8
abbrev form_f : List ℕ
form_f = replicate 3 8 ++ (replicate 3 0 ++ (replicate 7 8 ++ replicate 3 0))

abbrev list_f : List FieldRecord
list_f = field 0 3 ∷ field 3 3 ∷ field 6 7 ∷ field 13 3 ∷ replicate 12 unused

pub record Worked : Type 0 where
  pub list : fields_of 16 form_f ≡ list_f
  -- FORMAT DATA: 8 over three cells from (3,0), and 0 over two from (7,0); then an erased screen
  pub joined : fields_of 16 (replicate 13 8 ++ replicate 3 0) ≡ field 0 13 ∷ field 13 3 ∷ replicate 14 unused
  pub parted : fields_of 16 (replicate 3 8 ++ (replicate 3 0 ++ (8 ∷ 0 ∷ 0 ∷ (replicate 4 8 ++ replicate 3 0))))
      ≡ field 0 3 ∷ field 3 3 ∷ field 6 1 ∷ field 7 2 ∷ field 9 4 ∷ field 13 3 ∷ replicate 10 unused
  pub blank : fields_of 16 (replicate 16 0) ≡ field 0 16 ∷ replicate 15 unused
  -- longer lists are zeros to their end; fifteen records are too few; an unused record that is not zeros disagrees
  pub longer : agrees (list_f ++ (unused ∷ [])) form_f ≡ true
  pub fewer : too_short (replicate 15 unused) 16 ≡ true
  pub enough : too_short list_f 16 ≡ false
  pub stale : agrees (field 0 16 ∷ (replicate 14 unused ++ (field 3 3 ∷ []))) (replicate 16 0) ≡ false
  -- at (3,0) and (6,1) in a field, by its number among the unprotected ones; at (6,0) in none
  pub first : (found_by_list list_f form_f 3 ≡ found 1 (field 3 3)) × (found_by_reading form_f 3 ≡ found 1 (field 3 3))
  pub second : (found_by_list list_f form_f 14 ≡ found 2 (field 13 3)) × (found_by_reading form_f 14 ≡ found 2 (field 13 3))
  pub in_none : (found_by_list list_f form_f 6 ≡ None) × (found_by_reading form_f 6 ≡ None)

pub worked : Worked
unfolding first_of last_of protected_at starts_at opens_at field_start field_end fields_from agrees_from opens_before found_from
worked =
    record {
      list = refl;
      joined = refl;
      parted = refl;
      blank = refl;
      longer = refl;
      fewer = refl;
      enough = refl;
      stale = refl;
      first = (refl, refl);
      second = (refl, refl);
      in_none = (refl, refl);
    }

-- The search of a list for a cell, record by record.
use Rattle.std.proofs.Common.{◌≡◌, refl, Bool, true, false, not, List, ℕ, ◌+◌, ◌≤◌, ◌<◌, add-one, ne_eqb, arith, length, get_or, drop, drop_of_length-le, drop-cons, None, if◌then◌else◌}
use Rattle.std.specs.Int.{from_bool}
use Rattle.screen.specs.Attributes.{protected_at}
use Rattle.screen.specs.FieldList.{unused, has_cell, counted, found, found_from}
use Rattle.screen.specs.declared.record.FieldRecord.{FieldRecord}

-- an unprotected field counts
counted_adds : (before : ℕ) (protected : Bool) → counted before protected ≡ before + from_bool (not protected)
counted_adds before true = omega arith
counted_adds before false = refl

module _ (attrs : List ℕ) (cell before : ℕ) (xs : List FieldRecord) (k : ℕ) where
  -- the records have come to their end
  pub find_end : length xs ≤ k → found_from before (drop k xs) attrs cell ≡ None
  unfolding found_from
  find_end h = rw (drop_of_length-le xs {i = k} h)

  module _ (h : k < length xs) where
    abbrev here : FieldRecord
    here = get_or xs k unused

    -- it is zeros; it has the cell; it has not
    pub find_zeros : here.length ≡ 0 → found_from before (drop k xs) attrs cell ≡ None
    unfolding found_from
    find_zeros e = rw (drop-cons xs k unused h, e)

    pub find_here : (here.length ≡ 0 → ⊥) → has_cell here cell ≡ true
        → found_from before (drop k xs) attrs cell ≡ (if protected_at attrs here.start then None else found (before + 1) here)
    unfolding found_from
    find_here z e = rw (drop-cons xs k unused h, ne_eqb here.length 0 z, e)

    pub find_next : (here.length ≡ 0 → ⊥) → has_cell here cell ≡ false
        → found_from before (drop k xs) attrs cell
        ≡ found_from (before + from_bool (not (protected_at attrs here.start))) (drop (k + 1) xs) attrs cell
    unfolding found_from
    find_next z e = rw (drop-cons xs k unused h, ne_eqb here.length 0 z, e, counted_adds before (protected_at attrs here.start), add-one k)

pub ruleset finding = (find_end, find_zeros, find_here, find_next)

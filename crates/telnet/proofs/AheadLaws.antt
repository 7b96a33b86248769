-- Laws of a whole subnegotiation: which bytes it is, and what they tell, read one after the other.
use Rattle.std.proofs.Common.{ℕ, ◌+◌, ◌-◌, ◌≤◌, ◌<◌, arith, ◌≡◌, refl, sym, Bool, true, false, not, ◌&&◌, List, [], ◌∷◌, ◌++◌, map, append-nil, eqb, ltb, length, get_or, eqb-true, eq-eqb, ne_eqb, ltb-true, lt-ltb, le-ltb, Option, None, Some, if◌then◌else◌}
use borrow.Author.Tests.{not-true, eqb-false}
use Rattle.words.proofs.Laws.{and_left, and_right, and_off}
use Rattle.telnet.specs.declared.Phase.{Phase}
use Rattle.telnet.specs.declared.Phase.TheVariants.{Rest, Iac, Negotiating, Opening, OpeningIac, Inside, InsideIac}
use Rattle.telnet.specs.declared.Event.TheVariants.{Nothing, Begin, Sub, End}
use Rattle.telnet.specs.declared.ahead.WholeSub.{WholeSub}
use Rattle.telnet.specs.Reader.{iac, sb, se, reader}
use Rattle.telnet.specs.Stream.{data_end, part, stretch_of, whole_from, sub_from, ahead_of}
use Rattle.telnet.proofs.Laws.{Reads, No255, joined, one, plain_payload_read}
use Rattle.telnet.proofs.PartLaws.{part_one, part_then}
use Rattle.telnet.proofs.StretchLaws.{stretch_plain, stretch_length, end_iac, end_forth, end_within}

-- ---- none: one of the four tests fails

module _ (s : List ℕ) (from : ℕ) where
  abbrev end : ℕ
  end = data_end s (from + 2)

  -- what stands there where all four are passed
  abbrev found : WholeSub
  found = record { option = get_or s (from + 1) 0; start = from + 2; end = end; next = end + 2 }

  pub other_first : (get_or s from 0 ≡ sb → ⊥) → sub_from s from ≡ None
  unfolding sub_from whole_from
  other_first n = rw (ne_eqb _ _ n)

  pub other_option : get_or s (from + 1) 0 ≡ iac → sub_from s from ≡ None
  unfolding sub_from whole_from
  other_option e = rw (e, and_off)

  pub other_short : length s ≤ end + 1 → sub_from s from ≡ None
  unfolding sub_from whole_from
  other_short h = simp (le-ltb _ _ h, and_off)

  pub other_few : length s ≤ from + 3 → sub_from s from ≡ None
  other_few h = other_short (omega (arith, end_forth s (from + 2)))

  pub other_last : (get_or s (end + 1) 0 ≡ se → ⊥) → sub_from s from ≡ None
  unfolding sub_from whole_from
  other_last n = simp (ne_eqb _ _ n, and_off)

  -- all four are passed
  pub whole_sub : get_or s from 0 ≡ sb → (get_or s (from + 1) 0 ≡ iac → ⊥) → end + 1 < length s → get_or s (end + 1) 0 ≡ se
      → sub_from s from ≡ Some found
  unfolding sub_from whole_from
  whole_sub a b c d = simp (eq-eqb _ _ a, ne_eqb _ _ b, lt-ltb _ _ c, eq-eqb _ _ d)

-- ---- a whole subnegotiation

-- Which bytes it is: its opening, up to the IAC after its own bytes, and SE. None of its own is IAC.
pub record Whole (s : List ℕ) (from : ℕ) (w : WholeSub) : Type 0 where
  pub opening : part from (w.end + 1) s ≡ sb ∷ w.option ∷ (part w.start w.end s ++ (iac ∷ []))
  pub ends : get_or s (w.end + 1) 0 ≡ se
  pub option : w.option ≡ iac → ⊥
  pub plain : No255 (part w.start w.end s)
  pub long : length (part w.start w.end s) ≡ w.end - w.start
  pub after : w.start ≡ from + 2
  pub forth : w.start ≤ w.end
  pub on : w.next ≡ w.end + 2
  pub within : w.next ≤ length s

abbrev pub Stands : List ℕ → Phase → ℕ → Option WholeSub → Type 0
Stands s p from (Some w) = (p ≡ Iac) × Whole s from w
Stands s p from None = Unit {0}

-- the second byte from a place on
second : (at : ℕ) (xs : List ℕ) → at + 1 < length xs → part (at + 1) (at + 2) xs ≡ get_or xs (at + 1) 0 ∷ []
second at xs h = let two : at + 2 ≡ at + 1 + 1 = omega arith in rw two (part_one (at + 1) xs h)

whole : (s : List ℕ) (from : ℕ) → whole_from s from ≡ true
    → Whole s from (found s from)
unfolding whole_from stretch_of
whole s from e =
    let start = from + 2 in
    let end = data_end s start in
    let first = eqb (get_or s from 0) sb in
    let own = not (eqb (get_or s (from + 1) 0) iac) in
    let room = ltb (end + 1) (length s) in
    let last = eqb (get_or s (end + 1) 0) se in
    let on = and_right first (own && (room && last)) e in
    let rest = and_right own (room && last) on in
    let forth : from + 2 ≤ data_end s (from + 2) = end_forth s start in
    let within : data_end s (from + 2) + 1 < length s = ltb-true (end + 1) (length s) (and_left room last rest) in
    let is_sb : get_or s from 0 ≡ sb = eqb-true _ _ (and_left first (own && (room && last)) e) in
    let first_byte : part from (from + 1) s ≡ get_or s from 0 ∷ [] = part_one from s (omega arith) in
    let iac_byte : part end (end + 1) s ≡ get_or s end 0 ∷ [] = part_one end s (omega arith) in
    record {
      opening = rw (
        part_then {from = from} {mid = start} {end = end + 1} s (omega arith) (omega arith),
        part_then {from = from} {mid = from + 1} {end = start} s (omega arith) (omega arith),
        first_byte,
        second from s (omega arith),
        part_then {from = start} {mid = end} {end = end + 1} s forth (omega arith),
        iac_byte,
        end_iac s start (omega arith),
        is_sb,
      );
      ends = eqb-true _ _ (and_right room last rest);
      option = eqb-false _ _ (not-true _ (and_left own (room && last) on));
      plain = stretch_plain s start Rest;
      long = stretch_length s start Rest;
      after = refl;
      forth = forth;
      on = refl;
      within = omega arith;
    }

stands : (s : List ℕ) (p : Phase) (from : ℕ) → Stands s p from (ahead_of p s from)
unfolding ahead_of sub_from
stands s Rest from = tt
stands s Iac from = go (whole_from s from) refl
  where
    go : (t : Bool) → whole_from s from ≡ t → Stands s Iac from (if t then Some (found s from) else None)
    go true e = (refl, whole s from e)
    go false e = tt
stands s (Negotiating v) from = tt
stands s Opening from = tt
stands s OpeningIac from = tt
stands s (Inside o) from = tt
stands s (InsideIac o) from = tt

-- what is found ahead stands there
pub ahead_stands : (s : List ℕ) (p : Phase) (from : ℕ) {a b : Option WholeSub} → a ≡ ahead_of p s from → a ≡ b → Stands s p from b
ahead_stands s p from e q = rw (sym e, q) at (stands s p from)

-- read after an IAC, it tells its option, each byte of its payload, and its end
pub whole_read : {s : List ℕ} {from : ℕ} {w : WholeSub} → Whole s from w
    → Reads Iac (part from w.next s) (Begin w.option ∷ (map (Sub w.option) (part w.start w.end s) ++ (End w.option ∷ []))) Rest
unfolding reader
whole_read {s} {from} {w} h =
    let o = w.option in
    let own_bytes = part w.start w.end s in
    let last_byte : part (w.end + 1) (w.end + 2) s ≡ get_or s (w.end + 1) 0 ∷ [] = second w.end s (omega (arith, h.within, h.on)) in
    let all = part_then {from = from} {mid = w.end + 1} {end = w.end + 2} s (omega (arith, h.after, h.forth)) (omega arith) in
    let opens = joined (one {b = sb} Opening Nothing refl) (one {b = o} (Inside o) (Begin o) (rw (ne_eqb _ _ h.option))) in
    let own = rw append-nil at (joined (plain_payload_read o own_bytes h.plain) (one {b = iac} (InsideIac o) Nothing refl)) in
    rw (h.on, all, h.opening, last_byte, h.ends) (joined (joined opens own) (one {b = se} Rest (End o) refl))

-- what stands ahead is a whole subnegotiation, or is not
pub ruleset looking_ahead = (end_within, other_first, other_option, other_short, other_few, other_last, whole_sub)

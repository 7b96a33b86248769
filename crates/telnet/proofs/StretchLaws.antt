-- Laws of stretches: what the bytes up to the next IAC tell, read one after the other.
use Rattle.std.proofs.Common.{ℕ, ◌+◌, ◌-◌, ◌≤◌, ◌<◌, add-zero, arith, ◌≡◌, refl, sym, ap, ◌∙◌, Bool, true, false, List, [], ◌∷◌, ◌++◌, map, append-nil, ltb, length, drop, get_or, length-drop, drop_of_length-le, get_or-drop, length-take-le, ltb-true, ltb-false, lt-ltb, le-ltb, not, ◌&&◌, eqb, drop-cons, ne_eqb, add-one, add-suc, suc-add}
use borrow.Author.Tests.{not-true, eqb-false}
use Rattle.telnet.specs.declared.Phase.{Phase}
use Rattle.telnet.specs.declared.Phase.TheVariants.{Rest, Iac, Inside, InsideIac}
use Rattle.telnet.specs.declared.Event.{Event}
use Rattle.telnet.specs.declared.Event.TheVariants.{Nothing, Data, Sub}
use Rattle.telnet.specs.declared.stretch.Stretch.{Stretch}
use Rattle.telnet.specs.Reader.{iac, silent, read_of, reader}
use Rattle.telnet.specs.Stream.{phase_after, as_list, events_of, before_iac, data_end, part, stretch_of}
use Rattle.telnet.proofs.Laws.{Reads, No255, phase_append, events_append, events_at, phase_at_lem, joined, one}
use Rattle.telnet.proofs.Laws.{plain_read, plain_payload_read}
use Rattle.telnet.proofs.BeforeLaws.{before}
use Rattle.telnet.proofs.PartLaws.{part_one, part_then, part_rest}

-- ---- where the first IAC stands, a step further

end_skip : (s : List ℕ) (i : ℕ) → i < length s → (get_or s i 0 ≡ iac → ⊥) → data_end s i ≡ data_end s (i + 1)
unfolding data_end before_iac
end_skip s i w n = rw (drop-cons s i 0) (simp (ne_eqb _ _ n, add-one, add-suc, suc-add))

end_next : (s : List ℕ) (from i : ℕ) → from + i < length s → (get_or s (from + i) 0 ≡ iac → ⊥)
    → data_end s (from + i) ≡ data_end s (from + (i + 1))
end_next s from i w n = let a : from + (i + 1) ≡ from + i + 1 = omega arith in rw a (end_skip s (from + i) w n)

-- all eight are behind
pub end_eight : (s : List ℕ) (at : ℕ) {n : ℕ} → data_end s at ≡ data_end s (at + n) → n ≡ 8 → data_end s at ≡ data_end s (at + 8)
end_eight s at e q = rw q at e

-- none of the bytes so far is IAC, and this one is not
pub end_more : (s : List ℕ) (from i : ℕ) (all : Bool) → (all ≡ true → data_end s from ≡ data_end s (from + i)) → from + i < length s
    → (all && not (eqb (get_or s (from + i) 0) iac)) ≡ true → data_end s from ≡ data_end s (from + (i + 1))
end_more s from i true h w e = h refl ∙ end_next s from i w (eqb-false _ _ (not-true _ e))
end_more s from i false h w e = let z : ◌≡◌ {A = ℕ} 0 1 = cc in absurd (omega arith)

-- past the end there is none
pub end_past : (s : List ℕ) (i : ℕ) → length s ≤ i → data_end s i ≡ i
unfolding data_end before_iac
end_past s i h = rw (drop_of_length-le s h, add-zero)

-- Read from the phase p, the bytes from i on tell these events, and then what those from j on tell from q.
pub record Onward (s : List ℕ) (p : Phase) (i : ℕ) (es : List Event) (q : Phase) (j : ℕ) : Type 0 where
  pub events : events_of p (drop i s) ≡ es ++ events_of q (drop j s)
  pub phase : phase_after p (drop i s) ≡ phase_after q (drop j s)

-- one byte
pub byte_onward : (s : List ℕ) (p : Phase) (i : ℕ) → i < length s →
    let step = read_of p (get_or s i 0) in Onward s p i (as_list step.event) step.phase (i + 1)
byte_onward s p i h = record { events = events_at p s i h; phase = phase_at_lem p s i h }

-- where a stretch lies: some bytes, or the IAC alone, and all in the list
pub record Lies (s : List ℕ) (from : ℕ) (t : Stretch) : Type 0 where
  pub onward : from ≤ t.end
  pub forth : t.end ≤ t.next
  pub within : t.next ≤ length s
  pub further : from < t.next

module _ (s : List ℕ) (from : ℕ) where
  count : data_end s from - from ≡ before_iac (drop from s)
  unfolding data_end
  count = omega arith

  pub end_iac : data_end s from < length s → get_or s (data_end s from) 0 ≡ iac
  unfolding data_end
  end_iac h = rw get_or-drop at ((before (drop from s)).next (rw length-drop (omega arith)))

  pub end_forth : from ≤ data_end s from
  unfolding data_end
  end_forth = omega arith

  pub end_within : from ≤ length s → data_end s from ≤ length s
  unfolding data_end
  end_within h = omega (arith, rw length-drop at (before (drop from s)).within)

  module _ (p : Phase) where
    -- the stretch, its bytes, and its bytes with the IAC after them
    abbrev pub here : Stretch
    here = stretch_of p s from

    abbrev pub bytes : List ℕ
    bytes = part from here.end s

    abbrev pub through : List ℕ
    through = part from here.next s

    -- no byte of it is IAC
    pub stretch_plain : No255 bytes
    unfolding stretch_of
    stretch_plain = rw count (before (drop from s)).plain

    pub stretch_length : length bytes ≡ here.end - from
    unfolding stretch_of
    stretch_length = rw count (length-take-le _ _ (before (drop from s)).within)

    -- an IAC stands at its end, or it ends with the list
    pub stretch_iac : data_end s from < length s
        → here ≡ record { end = data_end s from; next = data_end s from + 1; phase = (read_of p iac).phase }
    unfolding stretch_of
    stretch_iac h = rw (lt-ltb _ _ h)

    pub stretch_last : length s ≤ data_end s from → here ≡ record { end = data_end s from; next = data_end s from; phase = p }
    unfolding stretch_of
    stretch_last h = rw (le-ltb _ _ h)

    pub stretch_past : length s ≤ from → here ≡ record { end = from; next = from; phase = p }
    stretch_past h = let e = end_past s from h in rw e at (stretch_last (rw e h))

    pub stretch_lies : from < length s → Lies s from here
    stretch_lies h = go (ltb (data_end s from) (length s)) refl
      where
        go : (t : Bool) → ltb (data_end s from) (length s) ≡ t → Lies s from here
        go true e =
            let more = ltb-true (data_end s from) (length s) e in
            rw (stretch_iac more)
            (record { onward = end_forth; forth = omega arith; within = omega (arith, more); further = omega (arith, end_forth) })
        go false e =
            let last = ltb-false (data_end s from) (length s) e in
            rw (stretch_last last)
            (record { onward = end_forth; forth = omega arith; within = end_within (omega arith); further = omega (arith, last) })

    -- What holds of its bytes with the phase before them, and of those and an IAC with the phase that it leads to, holds of all up
    -- to where reading goes on.
    pub by_end : (P : List ℕ → Phase → Type 0) → P bytes p → P (bytes ++ (iac ∷ [])) (read_of p iac).phase → P through here.phase
    by_end P last more = go (ltb (data_end s from) (length s)) refl
      where
        go : (t : Bool) → ltb (data_end s from) (length s) ≡ t → P through here.phase
        go true e =
            let h = ltb-true (data_end s from) (length s) e in
            let next : part (data_end s from) (data_end s from + 1) s ≡ iac ∷ [] = rw (part_one (data_end s from) s h, end_iac h) in
            rw (stretch_iac h, part_then {end = data_end s from + 1} s end_forth (omega arith), next) (rw (stretch_iac h) at more)
        go false e = let h = ltb-false (data_end s from) (length s) e in rw (stretch_last h) (rw (stretch_last h) at last)

    -- an IAC that tells nothing leaves what its bytes tell
    read_through : {es : List Event} (q : Phase) → read_of p iac ≡ silent q → Reads p bytes es p → Reads p through es here.phase
    read_through {es} q step r = by_end (λ bs after. Reads p bs es after) r (rw (step, ← append-nil es) (joined r (one q Nothing step)))

  -- ---- what it tells, read one byte after the other

  -- at rest one data byte for each of its bytes, in order
  pub data_stretch : Reads Rest (through Rest) (map Data (bytes Rest)) (here Rest).phase
  unfolding reader
  data_stretch = read_through Rest Iac refl (plain_read (bytes Rest) (stretch_plain Rest))

  -- in a subnegotiation one byte of its payload for each
  pub payload_stretch : (o : ℕ) → let p = Inside o in Reads p (through p) (map (Sub o) (bytes p)) (here p).phase
  unfolding reader
  payload_stretch o = read_through (Inside o) (InsideIac o) refl (plain_payload_read o (bytes (Inside o)) (stretch_plain (Inside o)))

  -- so what is left can be read on from there
  pub onward : {p q : Phase} {es : List Event} {j : ℕ} → from ≤ j → Reads p (part from j s) es q → Onward s p from es q j
  onward {p} {j = j} h r =
      let split = sym (part_rest s h) in
      record {
        events = ap (events_of p) split ∙ (events_append p (part from j s) (drop j s) ∙ rw (r.events, r.phase));
        phase = ap (phase_after p) split ∙ (phase_append p (part from j s) (drop j s) ∙ rw r.phase);
      }

-- where a stretch ends
pub ruleset stretching = (stretch_iac, stretch_last, stretch_past)

-- Laws of the counts, and of counting on.
use Rattle.std.proofs.Common.{◌≡◌, refl, true, false, List, [], ◌∷◌, ◌++◌, map, ℕ, ◌+◌, ◌-◌, ◌≤◌, ◌<◌, add-zero, zero-add, add_assoc, one-add, arith, length, drop, get_or, drop_of_length-le, Some}
use Rattle.telnet.specs.declared.Phase.{Phase}
use Rattle.telnet.specs.declared.Phase.TheVariants.{Rest, Iac, Negotiating, Opening, OpeningIac, Inside, InsideIac}
use Rattle.telnet.specs.declared.Event.{Event}
use Rattle.telnet.specs.declared.Event.TheVariants.{Nothing, Data, Negotiation, Begin, Sub, End, EndBare, Lost}
use Rattle.telnet.specs.declared.stretch.Stretch.{Stretch}
use Rattle.telnet.specs.Reader.{read_of}
use Rattle.telnet.specs.Stream.{as_list, events_of, part, stretch_of}
use Rattle.telnet.proofs.Laws.{Reads}
use Rattle.telnet.specs.declared.ahead.WholeSub.{WholeSub}
use Rattle.telnet.proofs.AheadLaws.{Stands, whole_read}
use Rattle.telnet.proofs.StretchLaws.{Onward, bytes, byte_onward, stretch_length, stretch_lies, data_stretch, payload_stretch, onward}
use Rattle.tally.specs.declared.Tally.{Tally}
use Rattle.tally.specs.Counts.{counts, none, tallied, plus, tally_of}
use Rattle.tally.specs.Inner.Counting.{total, in_stretch, stretched}

-- ---- tallies add up as numbers do
plus_assoc : (r s t : Tally) → plus (plus r s) t ≡ plus r (plus s t)
unfolding plus
plus_assoc r s t = simp add_assoc

pub none_plus : (t : Tally) → plus none t ≡ t
unfolding plus
none_plus t = simp zero-add

plus_none : (t : Tally) → plus t none ≡ t
unfolding plus
plus_none t = simp add-zero

-- ---- what lists of events add
tally_append : (xs ys : List Event) → tally_of (xs ++ ys) ≡ plus (tally_of xs) (tally_of ys)
unfolding tally_of
tally_append [] ys = rw none_plus
tally_append (x ∷ xs) ys = rw (tally_append xs ys, plus_assoc)

-- an event as a list adds what the event adds, and one at most
event_tally : (e : Event) → (tally_of (as_list e) ≡ tallied e) × (total (tallied e) ≤ 1)
unfolding tally_of tallied plus
event_tally Nothing = (refl, omega arith)
event_tally (Data b) = (refl, omega arith)
event_tally (Negotiation v o) = (refl, omega arith)
event_tally (Begin o) = (refl, omega arith)
event_tally (Sub o b) = (refl, omega arith)
event_tally (End o) = (refl, omega arith)
event_tally EndBare = (refl, omega arith)
event_tally Lost = (refl, omega arith)

data_tally : (bs : List ℕ) → tally_of (map Data bs) ≡ counts (length bs) 0 0 0
unfolding tally_of tallied plus
data_tally [] = refl
data_tally (b ∷ bs) = rw (data_tally bs) (simp one-add)

payload_tally : (o : ℕ) (bs : List ℕ) → tally_of (map (Sub o) bs) ≡ counts 0 0 (length bs) 0
unfolding tally_of tallied plus
payload_tally o [] = refl
payload_tally o (b ∷ bs) = rw (payload_tally o bs) (simp one-add)

sub_tally : (o : ℕ) (bs : List ℕ) → tally_of (Begin o ∷ (map (Sub o) bs ++ (End o ∷ []))) ≡ counts 0 0 (length bs) 1
unfolding tally_of tallied plus
sub_tally o bs = rw (none_plus, tally_append, payload_tally o bs) (simp (add-zero, zero-add))

total_plus : (s t : Tally) → total (plus s t) ≡ total s + total t
unfolding plus
total_plus s t = omega arith

total_stretched : (p : Phase) (n : ℕ) → total (stretched p n) ≡ n
total_stretched (Inside o) n = omega arith
total_stretched Rest n = omega arith
total_stretched Iac n = omega arith
total_stretched (Negotiating v) n = omega arith
total_stretched Opening n = omega arith
total_stretched OpeningIac n = omega arith
total_stretched (InsideIac o) n = omega arith

-- ---- counting on

-- The counts so far and those of what is left are those of the whole, and they fit.
pub record Counting (input : List ℕ) (phase : Phase) (at : ℕ) (tally : Tally) : Type 0 where
  pub whole : plus tally (tally_of (events_of phase (drop at input))) ≡ tally_of (events_of Rest input)
  pub few : total tally ≤ at

-- nothing is counted yet
pub start_counted : (input : List ℕ) (t : Tally) → t.data_bytes ≡ 0 → t.negotiations ≡ 0 → t.payload ≡ 0 → t.ended ≡ 0
    → Counting input Rest 0 t
unfolding plus
start_counted input t d n p e = record { whole = rw (d, n, p, e) (simp zero-add); few = omega arith }

-- what a stretch tells, and what that adds
record Tells (input : List ℕ) (at : ℕ) (p : Phase) : Type 0 where
  told : List Event
  reads : Reads p (part at (stretch_of p input at).next input) told (stretch_of p input at).phase
  adds : tally_of told ≡ stretched p ((stretch_of p input at).end - at)

module _ (input : List ℕ) (at : ℕ) where
  none_told : {p : Phase} → false ≡ true → Tells input at p
  none_told e = let z : ◌≡◌ {A = ℕ} 0 1 = cc in absurd (omega arith)

  stretch_tells : (p : Phase) → in_stretch p ≡ true → Tells input at p
  stretch_tells Rest e = record {
    told = map Data (bytes input at Rest);
    reads = data_stretch input at;
    adds = rw (data_tally (bytes input at Rest), stretch_length input at Rest);
  }
  stretch_tells (Inside o) e = record {
    told = map (Sub o) (bytes input at (Inside o));
    reads = payload_stretch input at o;
    adds = rw (payload_tally o (bytes input at (Inside o)), stretch_length input at (Inside o));
  }
  stretch_tells Iac e = none_told e
  stretch_tells (Negotiating v) e = none_told e
  stretch_tells Opening e = none_told e
  stretch_tells OpeningIac e = none_told e
  stretch_tells (InsideIac o) e = none_told e

module _ {input : List ℕ} {phase : Phase} {at : ℕ} {tally : Tally} (c : Counting input phase at tally) where
  -- What is left tells these events first: they are counted too.
  further : {q : Phase} {next : ℕ} {es : List Event} → Onward input phase at es q next → total (tally_of es) ≤ next - at → at ≤ next
      → Counting input q next (plus tally (tally_of es))
  further o few h = record {
    whole = rw (plus_assoc, ← tally_append, ← o.events) c.whole;
    few = rw total_plus (omega (arith, c.few));
  }

  -- one byte
  pub byte_counted : at < length input → let step = read_of phase (get_or input at 0) in
      Counting input step.phase (at + 1) (plus tally (tallied step.event))
  byte_counted h =
      let adds = event_tally (read_of phase (get_or input at 0)).event in
      rw adds.0 at (further (byte_onward input phase at h) (rw adds.0 (omega (arith, adds.1))) (omega arith))

  -- a stretch
  pub stretch_counted : at < length input → in_stretch phase ≡ true → {s : Stretch} → s ≡ stretch_of phase input at
      → Counting input s.phase s.next (plus tally (stretched phase (s.end - at)))
  stretch_counted h inside {s} e =
      let t = stretch_tells input at phase inside in
      let l = stretch_lies input at phase h in
      let fit : total (tally_of t.told) ≤ (stretch_of phase input at).next - at =
      rw (t.adds, total_stretched) (omega (arith, l.onward, l.forth)) in
      rw (e, ← t.adds) (further (onward input at (omega (arith, l.further)) t.reads) fit (omega (arith, l.further)))

  -- a whole subnegotiation, which adds its length to one count and itself to another
  module _ {w : WholeSub} (s : Stands input phase at (Some w)) where
    abbrev one_more_sub : Tally
    one_more_sub = counts tally.data_bytes tally.negotiations (tally.payload + (w.end - w.start)) (tally.ended + 1)

    pub sub_counted : Counting input Rest w.next one_more_sub
    unfolding plus
    sub_counted =
        let k = s.1 in
        let told = Begin w.option ∷ (map (Sub w.option) (part w.start w.end input) ++ (End w.option ∷ [])) in
        let adds : tally_of told ≡ counts 0 0 (w.end - w.start) 1 = rw (sub_tally, k.long) in
        let forth : at ≤ w.next = omega (arith, k.after, k.forth, k.on) in
        let fit : total (tally_of told) ≤ w.next - at = rw adds (omega (arith, k.after, k.forth, k.on)) in
        let sum : plus tally (tally_of told) ≡ one_more_sub = rw adds (simp add-zero) in
        rw (← sum) (further (rw s.0 (onward input at forth (whole_read k))) fit forth)

-- at the end all is counted
pub counting_done : (input : List ℕ) (phase : Phase) (at : ℕ) (tally : Tally) →
    plus tally (tally_of (events_of phase (drop at input))) ≡ tally_of (events_of Rest input) → length input ≤ at →
    tally ≡ tally_of (events_of Rest input)
unfolding tally_of events_of
counting_done input phase at tally w h = rw plus_none at (rw (drop_of_length-le input h) at w)

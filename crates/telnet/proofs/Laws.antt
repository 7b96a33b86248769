-- What lists of bytes tell: in two parts, one byte at a time, and as a sender writes them.
use Rattle.std.proofs.Common.{ℕ, suc, ◌+◌, ◌≤◌, ◌<◌, add-one, arith, ◌≡◌, refl, sym, ◌∙◌, Bool, true, false, List, [], ◌∷◌, ◌++◌, map, append_assoc, append-nil, eqb, length, drop, get_or, length-append, drop-cons, eqb-true, ne_eqb, if◌then◌else◌}
use Rattle.telnet.specs.declared.Verb.{Verb}
use Rattle.telnet.specs.declared.Verb.TheVariants.{Will, Wont, Do, Dont}
use Rattle.telnet.specs.declared.Phase.{Phase}
use Rattle.telnet.specs.declared.Phase.TheVariants.{Rest, Iac, Negotiating, Opening, OpeningIac, Inside, InsideIac}
use Rattle.telnet.specs.declared.Event.{Event}
use Rattle.telnet.specs.declared.Event.TheVariants.{Nothing, Data, Negotiation, Begin, Sub, End, EndBare, Lost}
use Rattle.telnet.specs.declared.Step.{Step}
use Rattle.telnet.specs.Reader.{iac, sb, se, verb_code, tells, silent, after_iac, thrown_away, read_of, reader}
use Rattle.telnet.specs.Stream.{phase_after, as_list, events_of}
use Rattle.telnet.specs.Writer.{doubled, subnegotiation, negotiation}

-- A verb is no other command, and waits for its option byte.
pub verb_waits : (v : Verb) {b : ℕ} → verb_code v ≡ b → after_iac b ≡ silent (Negotiating v)
unfolding after_iac
verb_waits Will e = rw (← e)
verb_waits Wont e = rw (← e)
verb_waits Do e = rw (← e)
verb_waits Dont e = rw (← e)

-- A byte that is neither IAC, nor SB, nor a verb does nothing.
pub no_verb_rests : {b : ℕ} → (b ≡ iac → ⊥) → (b ≡ sb → ⊥) → ((v : Verb) → verb_code v ≡ b → ⊥) → after_iac b ≡ silent Rest
unfolding after_iac
no_verb_rests {b} i s n =
    let other : (v : Verb) → eqb b (verb_code v) ≡ false = λ v. ne_eqb b (verb_code v) (λ e. n v (sym e)) in
    simp (ne_eqb b iac i, ne_eqb b sb s, other Will, other Wont, other Do, other Dont)

-- Where the reader stands after two lists, one after the other.
pub phase_append : (p : Phase) (xs ys : List ℕ) → phase_after p (xs ++ ys) ≡ phase_after (phase_after p xs) ys
unfolding phase_after
phase_append p [] ys = refl
phase_append p (x ∷ xs) ys = phase_append (read_of p x).phase xs ys

-- What two lists tell, one after the other.
pub events_append : (p : Phase) (xs ys : List ℕ) → events_of p (xs ++ ys) ≡ events_of p xs ++ events_of (phase_after p xs) ys
unfolding phase_after events_of
events_append p [] ys = refl
events_append p (x ∷ xs) ys = rw (events_append (read_of p x).phase xs ys, append_assoc)

-- A byte tells at most one event, so a list tells no more events than it has bytes.
as_list_few : (e : Event) → length (as_list e) ≤ 1
as_list_few Nothing = omega arith
as_list_few (Data b) = omega arith
as_list_few (Negotiation v o) = omega arith
as_list_few (Begin o) = omega arith
as_list_few (Sub o b) = omega arith
as_list_few (End o) = omega arith
as_list_few EndBare = omega arith
as_list_few Lost = omega arith

pub events_few : (p : Phase) (bs : List ℕ) → length (events_of p bs) ≤ length bs
unfolding events_of
events_few p [] = omega arith
events_few p (b ∷ bs) = simp length-append (omega (arith, as_list_few (read_of p b).event, events_few (read_of p b).phase bs))

-- For a loop over a slice: the bytes from i on are the byte at i, then those from i + 1 on.
module _ (p : Phase) (s : List ℕ) (i : ℕ) (within : i < length s) where
  pub phase_at_lem : phase_after p (drop i s) ≡ phase_after (read_of p (get_or s i 0)).phase (drop (i + 1) s)
  unfolding phase_after
  phase_at_lem = rw (add-one, drop-cons s i 0)

  pub events_at : events_of p (drop i s)
      ≡ as_list (read_of p (get_or s i 0)).event ++ events_of (read_of p (get_or s i 0)).phase (drop (i + 1) s)
  unfolding events_of
  events_at = rw (add-one, drop-cons s i 0)

-- From the phase p the bytes tell exactly these events, and leave the reader at q.
pub record Reads (p : Phase) (bytes : List ℕ) (es : List Event) (q : Phase) : Type 0 where
  pub events : events_of p bytes ≡ es
  pub phase : phase_after p bytes ≡ q

-- Two such lists, one after the other.
pub joined : {p q r : Phase} {xs ys : List ℕ} {es fs : List Event} → Reads p xs es q → Reads q ys fs r → Reads p (xs ++ ys) (es ++ fs) r
joined {p} {xs = xs} {ys = ys} a b = record {
  events = events_append p xs ys ∙ rw (a.events, a.phase, b.events);
  phase = phase_append p xs ys ∙ rw (a.phase, b.phase);
}

-- bytes whose reading computes
computed : {p : Phase} {bytes : List ℕ} → Reads p bytes (events_of p bytes) (phase_after p bytes)
computed = record { events = refl; phase = refl }

-- one byte, by its step
pub one : {p : Phase} {b : ℕ} (q : Phase) (e : Event) → read_of p b ≡ tells q e → Reads p (b ∷ []) (as_list e) q
unfolding phase_after events_of
one q e step = record { events = rw (step, append-nil); phase = rw (step, phase_after) }

-- a byte as `doubled` writes it
abbrev written : ℕ → List ℕ
written b = if eqb b iac then iac ∷ iac ∷ [] else b ∷ []

-- One byte as written, at rest, as an option or in a payload: wherever 255 leads to a phase i in which 255 is the byte itself.
written_read : {p : Phase} (i : Phase) (q : ℕ → Phase) (e : ℕ → Event) →
    ((b : ℕ) → read_of p b ≡ (if eqb b iac then silent i else tells (q b) (e b))) → read_of i iac ≡ tells (q iac) (e iac) →
    (b : ℕ) → Reads p (written b) (as_list (e b)) (q b)
written_read {p} i q e plain escaped b = go (eqb b iac) refl
  where
    go : (t : Bool) → eqb b iac ≡ t → Reads p (written b) (as_list (e b)) (q b)
    go true h = rw (eqb-true b iac h) (joined (one i Nothing (plain iac)) (one (q iac) (e iac) escaped))
    go false h = rw h (one (q b) (e b) (plain b ∙ rw h))

-- bytes that each leave the phase as it was
doubled_read : {p : Phase} {e : ℕ → Event} → ((b : ℕ) → Reads p (written b) (e b ∷ []) p) →
    (bs : List ℕ) → Reads p (doubled bs) (map e bs) p
unfolding doubled phase_after events_of
doubled_read each [] = computed
doubled_read each (b ∷ bs) = joined (each b) (doubled_read each bs)

-- Data written with every 255 doubled is read as it was.
pub data_read : (bs : List ℕ) → Reads Rest (doubled bs) (map Data bs) Rest
unfolding reader
data_read = doubled_read (written_read Iac (λ b. Rest) Data (λ b. refl) refl)

-- And so is a payload, in its subnegotiation.
pub payload_read : (o : ℕ) (bs : List ℕ) → Reads (Inside o) (doubled bs) (map (Sub o) bs) (Inside o)
unfolding reader
payload_read o = doubled_read (written_read (InsideIac o) (λ b. Inside o) (Sub o) (λ b. refl) refl)

-- no byte is 255
abbrev pub No255 : List ℕ → Type 0
No255 bs = (k : ℕ) → k < length bs → get_or bs k 0 ≡ 255 → ⊥

-- Data without 255 is written as it is.
pub plain_doubled : (bs : List ℕ) → No255 bs → doubled bs ≡ bs
unfolding doubled
plain_doubled [] none = refl
plain_doubled (b ∷ bs) none =
    rw (ne_eqb b iac (none 0 (omega arith)), plain_doubled bs (λ k h. none (suc k) (omega arith)))

-- Data without 255 is read as it is.
pub plain_read : (bs : List ℕ) → No255 bs → Reads Rest bs (map Data bs) Rest
plain_read bs none = rw (plain_doubled bs none) at (data_read bs)

-- And so is a payload without 255.
pub plain_payload_read : (o : ℕ) (bs : List ℕ) → No255 bs → Reads (Inside o) bs (map (Sub o) bs) (Inside o)
plain_payload_read o bs none = rw (plain_doubled bs none) at (payload_read o bs)

-- A subnegotiation is read as its option, each byte of its payload, and its end.
pub sub_read : (o : ℕ) (bs : List ℕ) → Reads Rest (subnegotiation o bs) (Begin o ∷ (map (Sub o) bs ++ (End o ∷ []))) Rest
unfolding reader subnegotiation doubled phase_after events_of
sub_read o bs =
    joined (computed {p = Rest} {bytes = iac ∷ sb ∷ []})
    (joined
    (joined (written_read OpeningIac Inside Begin (λ b. refl) refl o) (payload_read o bs))
    (computed {p = Inside o} {bytes = iac ∷ se ∷ []}))

-- A negotiation command is read as its verb and option, whatever the option.
pub negotiation_read : (v : Verb) (o : ℕ) → Reads Rest (negotiation v o) (Negotiation v o ∷ []) Rest
unfolding reader negotiation phase_after events_of
negotiation_read Will o = computed
negotiation_read Wont o = computed
negotiation_read Do o = computed
negotiation_read Dont o = computed

-- IAC and a byte c that is neither IAC nor SE throws a subnegotiation away and leads where it leads outside one: IAC SB
-- begins anew, IAC and a verb waits for its option.
module _ {c : ℕ} (not_iac : c ≡ iac → ⊥) (not_se : c ≡ se → ⊥) where
  lost : {p : Phase} (i : Phase) (same end : Step) → read_of p iac ≡ silent i →
      read_of i c ≡ (if eqb c iac then same else (if eqb c se then end else thrown_away c)) →
      Reads p (iac ∷ c ∷ []) (Lost ∷ []) (after_iac c).phase
  unfolding thrown_away
  lost i same end leads step =
      joined (one i Nothing leads) (one (after_iac c).phase Lost (step ∙ simp (ne_eqb c iac not_iac, ne_eqb c se not_se)))

  -- with its option byte read
  pub lost_read : (o : ℕ) → Reads (Inside o) (iac ∷ c ∷ []) (Lost ∷ []) (after_iac c).phase
  unfolding reader
  lost_read o = lost (InsideIac o) _ _ refl refl

  -- before its option byte
  pub lost_bare_read : Reads Opening (iac ∷ c ∷ []) (Lost ∷ []) (after_iac c).phase
  unfolding reader
  lost_bare_read = lost OpeningIac _ _ refl refl

-- Laws of bytes that draw no reply: stretches without an IAC, at rest and in a subnegotiation, and the opening of a whole one.
use Rattle.std.proofs.Common.{◌≡◌, refl, ap, ◌∙◌, Bool, true, false, not, ◌&&◌, List, [], ◌∷◌, ℕ, suc, ◌+◌, ◌≤◌, ◌<◌, add-zero, arith, ne_eqb, lt-ltb, ltb, eqb, length, get_or, drop-cons}
use Rattle.words.proofs.Laws.{either, true_or_false}
use Rattle.telnet.specs.declared.Phase.{Phase}
use Rattle.telnet.specs.declared.Phase.TheVariants.{Rest, Iac, Negotiating, Opening, OpeningIac, Inside, InsideIac}
use Rattle.telnet.specs.declared.Event.TheVariants.{Nothing, End}
use Rattle.telnet.specs.declared.stretch.Stretch.{Stretch}
use Rattle.telnet.specs.declared.ahead.WholeSub.{WholeSub}
use Rattle.telnet.specs.declared.Step.{Step}
use Rattle.telnet.specs.Reader.{iac, sb, se, after_iac, opening, inside, inside_iac, read_of, reader}
use Rattle.telnet.specs.Stream.{before_iac, data_end, part, stretch_of}
use Rattle.telnet.proofs.Laws.{No255}
use Rattle.telnet.proofs.PartLaws.{part_none}
use Rattle.telnet.proofs.AheadLaws.{Whole}
use Rattle.telnet.proofs.StretchLaws.{Lies, here, bytes, through, stretch_plain, stretch_lies, by_end}
use Rattle.pad.specs.Message.{idle_message}
use Rattle.pad.specs.Host.{prints_lf}
use Rattle.rules.specs.declared.Held.{Held}
use Rattle.rules.specs.declared.Frame.{Frame}
use Rattle.rules.specs.declared.Reader.{Reader}
use Rattle.rules.specs.declared.Pad.{Pad}
use Rattle.rules.specs.Session.{none_held, Screen, State, View, line_takes_keys, session, screen, state, view}
use Rattle.rules.specs.Effect.{Effect, changed_all, marks_after, spelled_all}
use Rattle.rules.specs.Telnet.{holding, held_after, cr_after, host_data, host_text}
use Rattle.rules.specs.Pad.{is_x3, with_message, pad_after, joins, passes}
use Rattle.rules.specs.Operation.{Ran, happening, host_byte, applied, running}
use Rattle.rules.proofs.Characters.{changed_append}
use Rattle.rules.proofs.Running.{running_append}
use Rattle.command.specs.Held.{holding_all}
use Rattle.det.specs.declared.take.Turn.{Turn}
use Rattle.text.specs.Text.{Changes, joined, obeyed_bytes, ends_in_cr}
use Rattle.det.specs.Inner.Message.{in_message}
use Rattle.det.specs.Inner.Take.{QuietRun, QuietTurn, told_of, Tells}
use Rattle.text.proofs.TextLaws.{data_moves, data_only, text_moves}

-- nothing sent, nothing executed
abbrev still : State → Ran
still s = record { state = s; replies = []; executed = [] }

-- the reader stands in this phase
abbrev standing : Frame → Phase → Held → Bool → Pad → Screen → State
standing f phase held cr p b = state (session f (record { phase = phase; held = held; cr = cr }) p) b

-- at an IAC there is no data
pub stretch_none : (input : List ℕ) (from : ℕ) → from < length input → get_or input from 0 ≡ iac
    → record { end = from; next = from + 1; phase = Iac } ≡ stretch_of Rest input from
unfolding stretch_of data_end before_iac read_of
stretch_none input from h e = rw (drop-cons input from 0 h, e, add-zero, lt-ltb from (length input) h)

-- ---- one byte

-- host data changes no mode
data_modes : (v : View) (b : ℕ) → line_takes_keys (host_data v b).view.frame ≡ line_takes_keys v.frame
data_modes v b = ap (λ (w : View). line_takes_keys w.frame) (data_moves v b)

text_x3 : (v : View) (xs : List ℕ) → (host_text v xs).view.frame.x3 ≡ v.frame.x3
text_x3 v xs = ap (λ (w : View). w.frame.x3) (text_moves v xs)

module _ (f : Frame) (held : Held) (cr : Bool) (p : Pad) (b : Screen) where
  -- IAC, at rest and in a subnegotiation
  rest_iac : host_byte (standing f Rest held cr p b) 255 ≡ still (standing f (read_of Rest 255).phase held cr p b)
  unfolding host_byte happening held_after cr_after pad_after read_of changed_all spelled_all marks_after
  rest_iac = refl

  inside_iac_lem : (o : ℕ) → host_byte (standing f (Inside o) held cr p b) 255 ≡ still (standing f (read_of (Inside o) 255).phase held cr p b)
  unfolding host_byte happening held_after cr_after pad_after read_of inside changed_all spelled_all marks_after
  inside_iac_lem o = refl

  -- SB after an IAC
  iac_sb : host_byte (standing f Iac held cr p b) 250 ≡ still (standing f Opening held cr p b)
  unfolding host_byte happening held_after cr_after pad_after read_of after_iac changed_all spelled_all marks_after
  iac_sb = refl

  module _ {byte : ℕ} (n : byte ≡ 255 → ⊥) where
    -- any other byte after it is an option; another than 30 clears what is half read of a message
    opening_option : is_x3 byte ≡ false
        → host_byte (standing f Opening held cr p b) byte ≡ still (standing f (Inside byte) none_held cr (with_message p idle_message) b)
    unfolding host_byte happening held_after cr_after pad_after read_of opening changed_all spelled_all marks_after
    opening_option e = rw (ne_eqb _ _ n, e)

    -- any other byte at rest is data, passed over or obeyed
    rest_passed : passes f p cr byte ≡ true → host_byte (standing f Rest held cr p b) byte ≡ still (standing f Rest held (eqb byte 13) p b)
    unfolding host_byte happening held_after cr_after pad_after read_of changed_all spelled_all marks_after
    rest_passed e = rw (ne_eqb _ _ n, e)

    rest_data : passes f p cr byte ≡ false → {f' : Frame} {chars : List ℕ} → Changes (host_data (view f b.attrs) byte) b.chars b.attrs f' chars
        → host_byte (standing f Rest held cr p b) byte ≡ still (standing f' Rest held (eqb byte 13) p (screen chars b.attrs b.marks))
    unfolding host_byte happening held_after cr_after pad_after read_of spelled_all marks_after
    rest_data e d =
        rw (ne_eqb _ _ n, e)
        (ap (λ (e : Effect). applied (standing f Rest held cr p b) (record { phase = Rest; held = held; cr = eqb byte 13 }) p e) (data_only (view f b.attrs) byte)
        ∙ rw (← d.frame, ← d.characters))

    -- in a subnegotiation of another option it is held
    inside_held : (option : ℕ) → is_x3 option ≡ false → host_byte (standing f (Inside option) held cr p b) byte
        ≡ still (standing f (Inside option) (holding held byte) cr p b)
    unfolding host_byte happening held_after cr_after pad_after read_of inside holding changed_all spelled_all marks_after
    inside_held option e = rw (ne_eqb _ _ n, e)

-- ---- a list of bytes without an IAC

-- what data does, the PAD and the frame joining CR LF or not
abbrev effect_of : Bool → Frame → Bool → Screen → List ℕ → Effect
effect_of j f cr b xs = host_text (view f b.attrs) (obeyed_bytes j cr xs)

abbrev DataRan : List ℕ → Type 0
DataRan xs =
    (f : Frame) (held : Held) (cr : Bool) (p : Pad) (b : Screen) (j : Bool) → joins f p ≡ j →
    let e = effect_of j f cr b xs in
    running (standing f Rest held cr p b) xs
    ≡ still (standing e.view.frame Rest held (ends_in_cr cr xs) p (screen (changed_all b.chars b.attrs e.changes) b.attrs b.marks))

none_ran : DataRan []
unfolding running host_text changed_all joined ends_in_cr
none_ran f held cr p b true k = refl
none_ran f held cr p b false k = refl

more_ran : (x : ℕ) (xs : List ℕ) → (x ≡ 255 → ⊥) → DataRan xs → DataRan (x ∷ xs)
unfolding running host_text changed_all joined ends_in_cr passes
more_ran x xs plain ran f held cr p b j k =
    let v = view f b.attrs in
    let e = host_data v x in
    let kept : e.view ≡ view e.view.frame b.attrs = ap (λ (q : Effect). q.view) (data_only v x) in
    let after = screen (changed_all b.chars b.attrs e.changes) b.attrs b.marks in
    let obeyed : passes f p cr x ≡ false → running (standing f Rest held cr p b) (x ∷ xs) ≡ running (standing e.view.frame Rest held (eqb x 13) p after) xs =
    λ q. rw (rest_data f held cr p b plain q (record { frame = refl; characters = refl })) in
    let still_joins : joins e.view.frame p ≡ j = ap (λ t. t && not (prints_lf p.values)) (data_modes v x) ∙ k in
    let rest = ran e.view.frame held (eqb x 13) p after j still_joins in
    true_or_false j
    (λ t. true_or_false (cr && eqb x 10)
    (λ q. rw (rest_passed f held cr p b plain (rw (k, t, q)), t, q) (rw t at (ran f held (eqb x 13) p b j k)))
    (λ q. obeyed (rw (k, t, q)) ∙ rw (rest, t, q, kept, changed_append)))
    (λ t. obeyed (rw (k, t)) ∙ rw (rest, t, kept, changed_append))

data_ran : (xs : List ℕ) → No255 xs → DataRan xs
data_ran [] n = none_ran
data_ran (x ∷ xs) n = more_ran x xs (n 0 (omega arith)) (data_ran xs (λ i h. n (suc i) (omega arith)))

held_ran : (xs : List ℕ) → No255 xs → (f : Frame) (option : ℕ) → is_x3 option ≡ false → (held : Held) (cr : Bool) (p : Pad) (b : Screen)
    → running (standing f (Inside option) held cr p b) xs ≡ still (standing f (Inside option) (holding_all held xs) cr p b)
unfolding running holding_all
held_ran [] n f option e held cr p b = refl
held_ran (x ∷ xs) n f option e held cr p b =
    rw (inside_held f held cr p b (n 0 (omega arith)) option e, held_ran xs (λ k h. n (suc k) (omega arith)) f option e (holding held x) cr p b)

-- ---- a stretch of the input

module _ (input : List ℕ) (from : ℕ) (p : Phase) where
  -- its bytes draw no reply, and neither does the IAC after them
  quiet_through : (s : State) (after : Phase → State) → running s (bytes input from p) ≡ still (after p)
      → host_byte (after p) 255 ≡ still (after (read_of p 255).phase)
      → running s (through input from p) ≡ still (after (here input from p).phase)
  unfolding running
  quiet_through s after r iac =
      by_end input from p (λ bs q. running s bs ≡ still (after q)) r (running_append s (bytes input from p) (255 ∷ []) ∙ rw (r, iac))

-- a turn that ends with a stretch
abbrev turn : Stretch → Frame → Held → Bool → Turn
turn t f held cr = record { frame = f; reader = record { phase = t.phase; held = held; cr = cr }; event = Nothing; end = t.next }

-- after the stretch the reader stands in no message of option 30, if it stood in none before
outside_after : (p : Phase) (bytes : List ℕ) (from : ℕ) → in_message p ≡ false → in_message (read_of p 255).phase ≡ false
    → in_message (stretch_of p bytes from).phase ≡ false
unfolding stretch_of
outside_after p bytes from a b = either (λ q. in_message q ≡ false) (ltb (data_end bytes from) (length bytes)) (λ t. b) (λ t. a)

module _ {input : List ℕ} {from : ℕ} (h : from < length input) (p : Phase) {t : Stretch} (e : t ≡ stretch_of p input from) where
  pub lies : Lies input from t
  lies = rw e (stretch_lies input from p h)

  quiet_turn : {s : State} {f : Frame} {held : Held} {cr : Bool} {pad : Pad} {b : Screen}
      → running s (part from t.next input) ≡ still (standing f t.phase held cr pad b) → in_message t.phase ≡ false
      → f.x3 ≡ s.session.frame.x3 → QuietTurn s input from (turn t f held cr) pad b
  quiet_turn ran out on =
      record {
        run = record { onward = omega (arith, lies.further); within = lies.within; ran = ran };
        nothing = refl;
        stands = out;
        x3 = on;
      }

  -- data
  pub text_turn : {phase : Phase} {f f' : Frame} {held : Held} {cr cr' : Bool} {pad : Pad} {b : Screen} {chars : List ℕ} → phase ≡ p → p ≡ Rest
      → (j : Bool) → joins f pad ≡ j → Changes (effect_of j f cr b (part from t.end input)) b.chars b.attrs f' chars
      → cr' ≡ ends_in_cr cr (part from t.end input)
      → QuietTurn (standing f phase held cr pad b) input from (turn t f' held cr') pad (screen chars b.attrs b.marks)
  unfolding in_message read_of
  text_turn {f = f} {f'} {held} {cr} {cr'} {pad} {b} {chars} o q j k c ends =
      let d = rw (e, q) at c in
      let last = rw (e, q) at ends in
      quiet_turn
      (rw (o, e, q) (quiet_through input from Rest (standing f Rest held cr pad b) (λ x. standing f' x held cr' pad (screen chars b.attrs b.marks))
      (data_ran (bytes input from Rest) (stretch_plain input from Rest) f held cr pad b j k ∙ rw (← d.frame, ← d.characters, ← last))
      (rest_iac f' held cr' pad (screen chars b.attrs b.marks))))
      (rw (e, q) (outside_after Rest input from refl refl))
      (ap (λ (g : Frame). g.x3) c.frame ∙ text_x3 (view f b.attrs) _)

  -- a subnegotiation's bytes
  pub payload_turn : {phase : Phase} {f : Frame} {held held' : Held} {cr : Bool} {pad : Pad} {b : Screen} (o : ℕ) → phase ≡ p → p ≡ Inside o
      → is_x3 o ≡ false → held' ≡ holding_all held (part from t.end input)
      → QuietTurn (standing f phase held cr pad b) input from (turn t f held' cr) pad b
  unfolding in_message read_of inside
  payload_turn {f = f} {held} {held'} {cr} {pad} {b} o k q x c =
      let d = rw (e, q) at c in
      quiet_turn
      (rw (k, e, q) (quiet_through input from (Inside o) (standing f (Inside o) held cr pad b) (λ x. standing f x held' cr pad b)
      (held_ran (bytes input from (Inside o)) (stretch_plain input from (Inside o)) f o x held cr pad b ∙ rw (← d))
      (inside_iac_lem f held' cr pad b o)))
      (rw (e, q) (outside_after (Inside o) input from x x))
      refl

-- no byte
pub run_none : {s : State} {input : List ℕ} {from : ℕ} → from ≤ length input → QuietRun s input from s from
unfolding running
run_none h = record { onward = omega arith; within = h; ran = rw part_none }

-- ---- what is told next

module _ {input : List ℕ} {from : ℕ} {w : WholeSub} (h : Whole input from w) (x : is_x3 w.option ≡ false) where
  -- up to the IAC after its bytes, a whole subnegotiation is held
  opening_ran : (f : Frame) (held : Held) (cr : Bool) (p : Pad) (b : Screen)
      → running (standing f Iac held cr p b) (part from (w.end + 1) input)
      ≡ still (standing f (InsideIac w.option) (holding_all none_held (part w.start w.end input)) cr (with_message p idle_message) b)
  unfolding running read_of inside
  opening_ran f held cr p b =
      let o = w.option in
      let xs = part w.start w.end input in
      let q = with_message p idle_message in
      rw (
        h.opening,
        iac_sb f held cr p b,
        opening_option f held cr p b h.option x,
        running_append (standing f (Inside o) none_held cr q b) xs (255 ∷ []),
        held_ran xs h.plain f o x none_held cr q b,
        inside_iac_lem f (holding_all none_held xs) cr q b o,
      )

-- its end
pub told_whole : {r : Reader} {input : List ℕ} {from : ℕ} {w : WholeSub} {held held' : Held} → (r.phase ≡ Iac) × Whole input from w
    → is_x3 w.option ≡ false → held ≡ holding_all none_held (part w.start w.end input) → held' ≡ none_held
    → Tells r input from (record { event = End w.option; held = held; reader = record { phase = Rest; held = held'; cr = r.cr }; next = w.next })
unfolding held_after cr_after pad_after read_of inside_iac
told_whole {r} {w = w} (ph, h) x e n = record {
  last = w.end + 1;
  phase = InsideIac w.option;
  before = λ p. with_message p idle_message;
  quiet = λ f p b. record {
    onward = omega (arith, h.after, h.forth);
    within = omega (arith, h.on, h.within);
    ran = rw (ph, e) (opening_ran h x f r.held r.cr p b);
  };
  values = λ p. refl;
  pad = λ f p. rw x;
  lies = omega (arith, h.on, h.within);
  next = omega (arith, h.on);
  step = rw h.ends;
  held = n;
  cr = refl;
  unasked = λ option q. let same : w.option ≡ option = cc in rw (← same) x;
}

-- outside a message of option 30 no byte ends one
abbrev Unasked : Step → Type 0
Unasked s = (option : ℕ) → s.event ≡ End option → is_x3 option ≡ false

end_outside : (p : Phase) (b : ℕ) → in_message p ≡ false → Unasked (read_of p b)
unfolding reader in_message
end_outside Rest b out = either Unasked (eqb b iac) (λ t o q. cc) (λ t o q. cc)
end_outside Iac b out =
    either Unasked (eqb b iac) (λ t o q. cc)
    (λ t. either Unasked (eqb b sb) (λ t o q. cc)
    (λ t. either Unasked (eqb b 251) (λ t o q. cc)
    (λ t. either Unasked (eqb b 252) (λ t o q. cc)
    (λ t. either Unasked (eqb b 253) (λ t o q. cc) (λ t. either Unasked (eqb b 254) (λ t o q. cc) (λ t o q. cc))))))
end_outside (Negotiating v) b out = λ o q. cc
end_outside Opening b out = either Unasked (eqb b iac) (λ t o q. cc) (λ t o q. cc)
end_outside OpeningIac b out =
    either Unasked (eqb b iac) (λ t o q. cc) (λ t. either Unasked (eqb b se) (λ t o q. cc) (λ t o q. cc))
end_outside (Inside o) b out = either Unasked (eqb b iac) (λ t o q. cc) (λ t o q. cc)
end_outside (InsideIac o) b out =
    either Unasked (eqb b iac) (λ t i q. cc)
    (λ t. either Unasked (eqb b se) (λ t i q. let same : o ≡ i = cc in rw (← same) out) (λ t i q. cc))

-- what the next byte tells, to a reader that stands in no message of option 30
pub told_next : {r : Reader} {input : List ℕ} {from : ℕ} → in_message r.phase ≡ false → from < length input
    → Tells r input from (told_of r (get_or input from 0) (from + 1))
unfolding told_of
told_next {r} {input} {from} out l = record {
  last = from;
  phase = r.phase;
  before = λ p. p;
  quiet = λ f p b. run_none (omega arith);
  values = λ p. refl;
  pad = λ f p. refl;
  lies = l;
  next = refl;
  step = refl;
  held = refl;
  cr = refl;
  unasked = end_outside r.phase (get_or input from 0) out;
}

-- ---- what the functions know

-- a subnegotiation that is no message of option 30
pub inside_other : {p : Phase} {o : ℕ} → p ≡ Inside o → in_message p ≡ false → is_x3 o ≡ false
unfolding in_message
inside_other e out = rw e at out

-- CR LF joined or not, by the parameter as it was handed on
pub joins_by : (f : Frame) (p : Pad) {lf : Bool} → prints_lf p.values ≡ lf → joins f p ≡ (line_takes_keys f && not lf)
joins_by f p e = rw e

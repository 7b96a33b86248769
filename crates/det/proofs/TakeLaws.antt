-- Laws of one host byte: what is decided on its event, and what the decision does.
use Rattle.std.proofs.Common.{◌≡◌, refl, sym, ap, ◌∙◌, Bool, true, false, not, ◌&&◌, List, [], ◌++◌, ℕ, ◌+◌, ◌≤◌, ◌<◌, arith, eqb, length, drop, length-drop}
use Rattle.telnet.specs.declared.Event.{Event}
use Rattle.telnet.specs.declared.Event.TheVariants.{Nothing, Data, Negotiation, Begin, Sub, End, EndBare, Lost}
use Rattle.telnet.specs.declared.Step.{Step}
use Rattle.telnet.specs.Reader.{read_of}
use Rattle.rules.specs.declared.Edition.{Edition}
use Rattle.rules.specs.declared.Frame.{Frame}
use Rattle.rules.specs.declared.Reader.{Reader}
use Rattle.rules.specs.declared.Pad.{Pad}
use Rattle.rules.specs.Session.{Screen, State, View, line_takes_keys, reply_room, session, screen, state, view, view_of}
use Rattle.rules.specs.Refusal.{is_taken}
use Rattle.rules.specs.Effect.{Effect, changed_all, marks_after, spelled_all, changing, quiet}
use Rattle.rules.specs.Telnet.{held_after, cr_after, host_data}
use Rattle.rules.specs.Pad.{is_x3, pad_after, response, passes}
use Rattle.rules.specs.Operation.{applied, happening, host_byte}
use Rattle.rules.specs.Call.{host}
use Rattle.rules.proofs.Sound.{Accepted, sound_of}
use Rattle.rules.proofs.Room.{room_byte}
use Rattle.decide.specs.declared.decision.Decision.{Decision}
use Rattle.decide.specs.declared.decision.Say.{Say}
use Rattle.reply.specs.declared.Reply.{Reply}
use Rattle.command.specs.Inner.Frame.{Fits}
use Rattle.decide.specs.Decision.{meant, shown, parts_of, Sendable, Decides, ended_det}
use Rattle.reply.specs.Inner.Reply.{Sayable}
use Rattle.text.specs.declared.canvas.Canvas.{Canvas}
use Rattle.text.specs.Text.{Changes}
use Rattle.text.specs.Canvas.{Draws}
use Rattle.text.proofs.CanvasLaws.{kept_none}
use Rattle.det.specs.Inner.Data.{data_effect, told_effect, det_effect}
use Rattle.det.specs.Inner.Apply.{Emits, Applies, Answerable}
use Rattle.det.specs.Inner.Take.{Accepts}
use Rattle.words.proofs.Laws.{either}
use Rattle.screen.proofs.CellLaws.{cell_lt}
use Rattle.pad.specs.Host.{prints_lf}
use Rattle.text.proofs.TextLaws.{data_only}
use Rattle.words.proofs.StoredLaws.{emitted_none, emitted_then}

-- ---- bytes in a reply

pub emits_none : {r : Reply} → Emits r [] r
emits_none = record { same_buffer = refl; emitted = emitted_none }

pub emits_then : {r r₁ r₂ : Reply} {xs ys : List ℕ} → Emits r xs r₁ → Emits r₁ ys r₂ → Emits r (xs ++ ys) r₂
emits_then p q = record { same_buffer = q.same_buffer ∙ p.same_buffer; emitted = emitted_then p.emitted q.emitted }

-- ---- what is done on an event

-- an effect that is decided by a rule
module _ {e : Effect} {f : Frame} {b : Screen} {reply : List ℕ} {at : ℕ} (a : Answerable e f b reply at)
    {d : Decision} {rule : View → Effect} (p : Decides (view f b.attrs) d rule) (q : rule (view f b.attrs) ≡ e) where
  means : meant b.attrs d ≡ shown e
  means = p.meaning ∙ ap shown q

  -- the reply can be written
  pub decided_sayable : Sayable d.frame.edition d.say b reply at
  decided_sayable =
      let parts : parts_of d.frame.edition b.attrs d.say ≡ e.reply = ap (λ (x : Effect). x.reply) means in
      record { sendable = p.sendable; long = a.long; room = rw parts a.room }

  -- and what is applied is the effect
  pub decided_applies : {f' : Frame} {b' : Screen} {r r' : Reply} → Applies (meant b.attrs d) b r f' b' r' → Applies e b r f' b' r'
  decided_applies h =
      let k = rw means at h in
      record {
        changes = record { frame = k.changes.frame; characters = k.changes.characters };
        attributes = k.attributes;
        marks = k.marks;
        replies = k.replies;
      }

-- what is done on an event is what the rules say, but for the end of a message of option 30
pub det_effect_lem : (v : View) (r : Reader) (p : Pad) (e : Event) → ((option : ℕ) → e ≡ End option → is_x3 option ≡ false)
    → happening v r p e ≡ det_effect v (prints_lf p.values) r.held r.cr e
unfolding happening told_effect det_effect data_effect ended_det passes response
det_effect_lem v r p Nothing u = refl
det_effect_lem v r p (Data b) u = refl
det_effect_lem v r p (Negotiation verb option) u = refl
det_effect_lem v r p (Begin option) u = refl
det_effect_lem v r p (Sub option b) u = refl
det_effect_lem v r p (End option) u = rw (u option refl)
det_effect_lem v r p EndBare u = refl
det_effect_lem v r p Lost u = refl

-- ---- host data

-- it keeps the attribute bytes, and draws no reply
effect_only : (v : View) (lf cr : Bool) (b : ℕ) → let e = data_effect v lf cr b in e ≡ changing (view e.view.frame v.attrs) e.changes
unfolding data_effect
effect_only v lf cr b =
    either (λ (e : Effect). e ≡ changing (view e.view.frame v.attrs) e.changes)
    ((line_takes_keys v.frame && not lf) && (cr && eqb b 10)) {x = quiet v} (λ t. refl) (λ t. data_only v b)

-- passed over, or obeyed
module _ (c : Canvas) (lf cr : Bool) (byte : ℕ) where
  pub data_passed : ((line_takes_keys c.frame && not lf) && (cr && eqb byte 10)) ≡ true → Draws (data_effect (view c.frame c.attrs.now) lf cr byte) c c
  unfolding data_effect changed_all
  data_passed e = rw e (record { kept = kept_none; frame = refl; changes = record { frame = refl; characters = refl } })

  pub data_obeyed : {c' : Canvas} → ((line_takes_keys c.frame && not lf) && (cr && eqb byte 10)) ≡ false
      → Draws (host_data (view c.frame c.attrs.now) byte) c c' → Draws (data_effect (view c.frame c.attrs.now) lf cr byte) c c'
  unfolding data_effect
  data_obeyed e d = rw e d

pub data_applies : (f : Frame) (lf cr : Bool) (byte : ℕ) {f' : Frame} {b : Screen} {chars : List ℕ} {r : Reply}
    → Changes (data_effect (view f b.attrs) lf cr byte) b.chars b.attrs f' chars
    → Applies (data_effect (view f b.attrs) lf cr byte) b r f' (screen chars b.attrs b.marks) r
unfolding spelled_all marks_after
data_applies f lf cr byte {b = b} k =
    let only = effect_only (view f b.attrs) lf cr byte in
    record {
      changes = k;
      attributes = ap (λ (e : Effect). e.view.attrs) (sym only);
      marks = rw (ap (λ (e : Effect). e.marking) only);
      replies = rw (ap (λ (e : Effect). e.reply) only) emits_none;
    }

-- ---- a byte that is taken

module _ (s : State) (reply : List ℕ) (at : ℕ) (a : Accepts s reply at) where
  -- and what it knows
  pub accepted : Accepted s (drop at reply)
  accepted = sound_of s (host [] (drop at reply)) (ap is_taken a)

  -- what a decision asks
  pub accepts_fits : Fits (view_of s)
  accepts_fits =
      let v = accepted.sound.view in
      record { on = record { x = v.cursor.0; y = v.cursor.1 }; long = v.attrs }

  -- there is a cell, so that there is room for some reply
  some_room : 0 < reply_room s.session.frame
  some_room = let v = accepted.sound.view in omega (arith, cell_lt v.cursor.0 v.cursor.1)

  -- and a reply no longer than the worst fits
  pub fits_worst : {n : ℕ} → n ≤ reply_room s.session.frame → at + n ≤ length reply
  fits_worst h = omega (arith, accepted.room, some_room, length-drop at reply)

  equally_long : length s.screen.chars ≡ length s.screen.attrs
  equally_long = let k = accepted.sound in k.chars.long ∙ sym k.view.attrs

  -- what is said can be written, if it is no longer than the worst
  pub sayable : {e : Edition} {say : Say} → Sendable s.screen.attrs say
      → length (spelled_all s.screen (parts_of e s.screen.attrs say)) ≤ reply_room s.session.frame
      → Sayable e say s.screen reply at
  sayable t h = record { sendable = t; long = equally_long; room = fits_worst h }

module _ (s : State) (r : Reply) (a : Accepts s r.buffer.now r.at) where
  module _ (byte : ℕ) {step : Step} (e : step ≡ read_of s.session.reader.phase byte) where
    -- what is done on the event that the byte tells
    abbrev happens : Effect
    happens = happening (view_of s) s.session.reader s.session.pad step.event

    abbrev after : Reader
    after =
        let before = s.session.reader in
        record { phase = step.phase; held = held_after before.held step.event; cr = cr_after before.cr step.event }

    byte_is : host_byte s byte ≡ applied s after (pad_after s.session.frame s.session.pad step.event) happens
    unfolding host_byte
    byte_is = rw (← e)

    -- the reply to it can be written
    pub byte_answerable : Answerable happens s.session.frame s.screen r.buffer.now r.at
    byte_answerable = record {
      fits = accepts_fits s r.buffer.now r.at a;
      long = equally_long s r.buffer.now r.at a;
      room = fits_worst s r.buffer.now r.at a (rw byte_is at (room_byte (accepted s r.buffer.now r.at a).sound byte));
    }

    -- and what is done is what the byte does
    module _ {f : Frame} {b : Screen} {r' : Reply} (h : Applies happens s.screen r f b r') where
      pub byte_state : {reader : Reader} → reader ≡ after
          → state (session f reader (pad_after s.session.frame s.session.pad step.event)) b ≡ (host_byte s byte).state
      byte_state q =
          rw (byte_is, q) (λ i. state
          (session (h.changes.frame i) after (pad_after s.session.frame s.session.pad step.event))
          (screen (h.changes.characters i) (h.attributes i) (h.marks i)))

      pub byte_replies : Emits r (host_byte s byte).replies r'
      byte_replies = rw byte_is h.replies

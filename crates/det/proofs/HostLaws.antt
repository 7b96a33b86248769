-- Laws of taking host bytes: none, one, a stretch, and some after others.
use Rattle.std.proofs.Common.{◌≡◌, refl, sym, ap, ◌∙◌, Bool, true, false, List, [], ◌∷◌, append-nil, ℕ, ◌+◌, ◌-◌, ◌≤◌, ◌<◌, zero-add, add-zero, arith, length, get_or, take, drop, length-drop, length-take-le, Ok}
use native.Mathlib.Nat.{sub-zero}
use Rattle.telnet.specs.Stream.{part}
use Rattle.telnet.proofs.PartLaws.{part_none, part_one, part_then, part_rest}
use Rattle.telnet.specs.declared.Event.{Event}
use Rattle.telnet.specs.declared.Event.TheVariants.{Nothing, Data, Negotiation, Begin, Sub, End, EndBare, Lost}
use Rattle.telnet.specs.declared.Verb.TheVariants.{Will, Wont, Do, Dont}
use Rattle.words.specs.Words.{bit}
use Rattle.pad.specs.Parameters.{parameters}
use Rattle.pad.specs.Line.{lines}
use Rattle.pad.specs.Message.{messages}
use Rattle.pad.specs.Host.{prints_lf}
use Rattle.rules.specs.declared.Frame.{Frame}
use Rattle.rules.specs.declared.Reader.{Reader}
use Rattle.rules.specs.declared.Pad.{Pad}
use Rattle.rules.specs.Session.{Screen, State, reply_room, session, state, view}
use Rattle.rules.specs.Effect.{Effect}
use Rattle.rules.specs.Telnet.{held_after, cr_after}
use Rattle.rules.specs.Pad.{empties, pad_after}
use Rattle.rules.specs.Operation.{Ran, outcome, happening, host_byte, running, taken_of}
use Rattle.rules.proofs.Pads.{SoundPad}
use Rattle.rules.proofs.Sound.{Sound, sound_running, passes}
use Rattle.rules.proofs.Room.{room_byte}
use Rattle.rules.proofs.Running.{running_append, silent_taken, taken_step}
use Rattle.reply.specs.declared.Reply.{Reply}
use Rattle.det.specs.declared.start.Start.{Start}
use Rattle.det.specs.declared.take.Told.{Told}
use Rattle.det.specs.declared.take.Turn.{Turn}
use Rattle.det.specs.Inner.Apply.{Emits, Applies, Answerable}
use Rattle.det.specs.Inner.Message.{in_message}
use Rattle.det.specs.Inner.Take.{Accepts, fresh_with, AcceptsTurn, Taking, QuietRun, QuietTurns, TellsNext, effect_at, Turns, host_taken}
use Rattle.words.proofs.StoredLaws.{emitted_length, emitted_whole}
use Rattle.det.proofs.TakeLaws.{emits_none, emits_then, accepted, fits_worst, det_effect_lem, byte_answerable, byte_state, byte_replies}

-- ---- none, and some after others

pub taking_none : {s : State} {input : List ℕ} {from : ℕ} {r : Reply} → from ≤ length input → r.at ≤ length r.buffer.now
    → Taking s input from r s from r
unfolding running
taking_none {from = from} h k = record {
  onward = omega arith;
  within = h;
  room = k;
  state = rw part_none;
  replies = rw part_none emits_none;
  count = let none : from - from ≡ 0 = omega arith in rw (none, zero-add);
}

module _ {s s₁ s₂ : State} {input : List ℕ} {a b c : ℕ} {r r₁ r₂ : Reply}
    (t : Taking s input a r s₁ b r₁) (u : Taking s₁ input b r₁ s₂ c r₂) where
  pub taking_then : Taking s input a r s₂ c r₂
  taking_then =
      let parts = part_then input t.onward u.onward in
      let long = emitted_length t.replies.emitted in
      record {
        onward = omega (arith, t.onward, u.onward);
        within = u.within;
        room = omega (arith, u.room);
        state = u.state ∙ rw (parts, running_append, ← t.state);
        replies = rw (parts, running_append, ← t.state) (emits_then t.replies u.replies);
        count = omega (arith, t.count, rw long at u.count, t.onward, u.onward);
      }

-- ---- one byte, and some that draw no reply

running_one : (s : State) (b : ℕ) → running s (b ∷ []) ≡ host_byte s b
unfolding running
running_one s b = simp append-nil

module _ (s : State) (r : Reply) (a : Accepts s r.buffer.now r.at) where
  free : reply_room s.session.frame ≤ length r.buffer.now - r.at
  free = omega (arith, (accepted s r.buffer.now r.at a).room, length-drop r.at r.buffer.now)

  module _ {input : List ℕ} {from : ℕ} where
    pub taking_byte : from < length input → {s' : State} {r' : Reply} → s' ≡ (host_byte s (get_or input from 0)).state
        → Emits r (host_byte s (get_or input from 0)).replies r' → Taking s input from r s' (from + 1) r'
    taking_byte h {r' = r'} after p =
        let b = get_or input from 0 in
        let one = host_byte s b in
        let ran : running s (part from (from + 1) input) ≡ one = rw (part_one from input h) (running_one s b) in
        let left : length r.buffer.now - r'.at ≡ length r.buffer.now - r.at - length one.replies = omega (arith, p.emitted.next) in
        record {
          onward = omega arith;
          within = omega arith;
          room = omega (arith, p.emitted.next, fits_worst s r.buffer.now r.at a (room_byte (accepted s r.buffer.now r.at a).sound b));
          state = after ∙ rw ran;
          replies = rw ran p;
          count = rw (after, left) (omega (arith, taken_step s (length r.buffer.now - r.at) input from h free));
        }

    module _ {s' : State} {end : ℕ} (q : QuietRun s input from s' end) where
      -- bytes that draw no reply
      pub taking_run : Taking s input from r s' end r
      taking_run =
          let long = length-take-le (end - from) (drop from input) (omega (arith, length-drop from input, q.onward, q.within)) in
          let quiet = ap (λ (x : Ran). length x.replies) q.ran in
          let sound = (accepted s r.buffer.now r.at a).sound in
          let count = silent_taken sound (length r.buffer.now - r.at) (part from end input) (drop end input) free quiet in
          record {
            onward = q.onward;
            within = q.within;
            room = omega (arith, fits_worst s r.buffer.now r.at a {n = 0} (omega arith));
            state = ap (λ (x : Ran). x.state) (sym q.ran);
            replies = rw q.ran emits_none;
            count = omega (arith, rw (part_rest input q.onward, q.ran) at count, long);
          }

      -- leave room for one as they found it
      pub accepts_run : Accepts s' r.buffer.now r.at
      accepts_run =
          let k = accepted s r.buffer.now r.at a in
          let sound = rw q.ran at (sound_running k.sound (part from end input)) in
          let z = sound.view.sizes in
          passes sound (drop r.at r.buffer.now) (rw (z.width, z.height) k.room)

-- ---- what is asked with a fresh PAD

fresh_prints : (lf : Bool) → prints_lf (fresh_with lf).values ≡ lf
unfolding prints_lf bit parameters
fresh_prints true = refl
fresh_prints false = refl

fresh_sound : (lf : Bool) → SoundPad (fresh_with lf)
unfolding parameters lines messages
fresh_sound true = record { values = refl; copy = refl; line = refl }
fresh_sound false = record { values = refl; copy = refl; line = refl }

-- what is asked with any PAD
pub accepts_turn : (f : Frame) (r : Reader) (p : Pad) (lf : Bool) (b : Screen) (reply : List ℕ) (at : ℕ) → Accepts (state (session f r p) b) reply at
    → Accepts (state (session f r (fresh_with lf)) b) reply at
accepts_turn f r p lf b reply at a =
    let k = accepted (state (session f r p) b) reply at a in
    let s = k.sound in
    passes (record { view = s.view; held = s.held; pad = fresh_sound lf; chars = s.chars; marks = s.marks }) (drop at reply) k.room

-- ---- what is told next

module _ (h : Start) (b : Screen) (r : Reply) {t : Told} (k : TellsNext h t) where
  -- what is done on it
  abbrev tells_effect : Effect
  tells_effect = effect_at h t b.attrs

  module _ (p : Pad) (prints : prints_lf p.values ≡ h.lf) (a : Accepts (state (session h.frame.now h.reader.now p) b) r.buffer.now r.at) where
    -- the state before the byte that tells it
    abbrev mid : State
    mid = state (session h.frame.now (record { phase = k.phase; held = t.held; cr = h.reader.now.cr }) (k.before p)) b

    mid_accepts : Accepts mid r.buffer.now r.at
    mid_accepts = accepts_run (state (session h.frame.now h.reader.now p) b) r a (k.quiet h.frame.now p b)

    same_effect : happening (view h.frame.now b.attrs) mid.session.reader (k.before p) t.event ≡ tells_effect
    same_effect = det_effect_lem _ _ _ _ k.unasked ∙ rw (k.values p, prints)

    -- the reply to it can be written
    answerable : Answerable tells_effect h.frame.now b r.buffer.now r.at
    answerable = rw (← same_effect) (byte_answerable mid r mid_accepts (get_or h.input.now k.last 0) k.step)

    -- and what is done is what the bytes do
    taking : {f : Frame} {b' : Screen} {r' : Reply} → Applies tells_effect b r f b' r'
        → Taking (state (session h.frame.now h.reader.now p) b) h.input.now h.from r
        (state (session f t.reader (pad_after h.frame.now p t.event)) b') t.next r'
    taking d =
        let byte = get_or h.input.now k.last 0 in
        let run = k.quiet h.frame.now p b in
        let does = rw (← same_effect) at d in
        let stands : t.reader ≡ record { phase = t.reader.phase; held = held_after t.held t.event; cr = cr_after h.reader.now.cr t.event } =
        λ i. record { phase = t.reader.phase; held = k.held i; cr = k.cr i } in
        let ends = byte_state mid r mid_accepts byte k.step does stands in
        let one = taking_byte mid r mid_accepts k.lies (rw (k.pad h.frame.now p) at ends) (byte_replies mid r mid_accepts byte k.step does) in
        rw k.next (taking_then (taking_run (state (session h.frame.now h.reader.now p) b) r a run) one)

  pub told_answerable : AcceptsTurn h b r → Answerable tells_effect h.frame.now b r.buffer.now r.at
  told_answerable a = answerable (fresh_with h.lf) (fresh_prints h.lf) a

  pub told_turns : {f : Frame} {b' : Screen} {r' : Reply} → Applies tells_effect b r f b' r'
      → (h.from < t.next) × Turns h b r (record { frame = f; reader = t.reader; event = t.event; end = t.next }) b' r'
  told_turns d =
      (omega (arith, (k.quiet h.frame.now (fresh_with h.lf) b).onward, k.next), λ p prints a. taking p prints a d)

-- ---- a stretch, and what is told after it

-- the PAD goes by option 30 on or off alone
pad_by_x3 : (f g : Frame) (p : Pad) (e : Event) → f.x3 ≡ g.x3 → pad_after f p e ≡ pad_after g p e
unfolding pad_after empties
pad_by_x3 f g p Nothing h = refl
pad_by_x3 f g p (Data b) h = refl
pad_by_x3 f g p (Negotiation Dont option) h = rw h
pad_by_x3 f g p (Negotiation Do option) h = refl
pad_by_x3 f g p (Negotiation Will option) h = refl
pad_by_x3 f g p (Negotiation Wont option) h = refl
pad_by_x3 f g p (Begin option) h = refl
pad_by_x3 f g p (Sub option b) h = refl
pad_by_x3 f g p (End option) h = rw h
pad_by_x3 f g p EndBare h = refl
pad_by_x3 f g p Lost h = refl

module _ (h : Start) {b b₁ : Screen} {t : Turn} (r : Reply) (q : QuietTurns h b t b₁) where
  abbrev quiet : (p : Pad) → prints_lf p.values ≡ h.lf
      → QuietRun (state (session h.frame.now h.reader.now p) b) h.input.now h.from (state (session t.frame t.reader p) b₁) t.end
  quiet p prints = (q p prints).run

  pub stretch_accepts : AcceptsTurn h b r → Accepts (state (session t.frame t.reader (fresh_with h.lf)) b₁) r.buffer.now r.at
  stretch_accepts a =
      accepts_run (state (session h.frame.now h.reader.now (fresh_with h.lf)) b) r a (quiet (fresh_with h.lf) (fresh_prints h.lf))

  pub stretch_outside : in_message t.reader.phase ≡ false
  stretch_outside = (q (fresh_with h.lf) (fresh_prints h.lf)).stands

  pub stretch_onward : h.from ≤ t.end
  stretch_onward = (quiet (fresh_with h.lf) (fresh_prints h.lf)).onward

  -- alone
  pub stretch_turns : Turns h b r t b₁ r
  unfolding pad_after
  stretch_turns p prints a =
      rw (q p prints).nothing (taking_run (state (session h.frame.now h.reader.now p) b) r a (quiet p prints))

  -- and more
  pub then_turns : (u : Turn) {b₂ : Screen} {r' : Reply}
      → ((p : Pad) → prints_lf p.values ≡ h.lf → Accepts (state (session t.frame t.reader p) b₁) r.buffer.now r.at
      → Taking (state (session t.frame t.reader p) b₁) h.input.now t.end r
      (state (session u.frame u.reader (pad_after t.frame p u.event)) b₂) u.end r')
      → Turns h b r u b₂ r'
  then_turns u w p prints a =
      let run = quiet p prints in
      let rest = w p prints (accepts_run (state (session h.frame.now h.reader.now p) b) r a run) in
      taking_then (taking_run (state (session h.frame.now h.reader.now p) b) r a run)
      (rw (pad_by_x3 t.frame h.frame.now p u.event (q p prints).x3) at rest)

-- ---- a whole call

module _ {s₀ s : State} {input : List ℕ} {r₀ r : Reply} {taken : ℕ} (t : Taking s₀ input 0 r₀ s taken r) where
  taking_sound : Accepts s₀ r₀.buffer.now r₀.at → Sound s₀.session.frame.width s₀.session.frame.height s
  taking_sound a = rw t.state (sound_running (accepted s₀ r₀.buffer.now r₀.at a).sound (part 0 taken input))

  -- the longest reply stays as long
  pub taking_room : Accepts s₀ r₀.buffer.now r₀.at → reply_room s.session.frame ≡ reply_room s₀.session.frame
  taking_room a = let z = (taking_sound a).view.sizes in rw (z.width, z.height)

  -- a byte is taken where there is room for a reply
  pub taking_accepts : Accepts s₀ r₀.buffer.now r₀.at → reply_room s₀.session.frame ≤ length r.buffer.now - r.at → Accepts s r.buffer.now r.at
  taking_accepts a k = passes (taking_sound a) (drop r.at r.buffer.now) (rw (length-drop, taking_room a) k)

  -- where no more is taken, all is done, and the lent buffer holds what the reply holds
  pub taking_done : r₀.at ≡ 0 → {buf : List ℕ} → (r₀.buffer.ghost_name ≡ r.buffer.ghost_name → buf ≡ r.buffer.now)
      → taken_of s (length r₀.buffer.now - r.at) (drop taken input) ≡ 0
      → outcome (record { session = s.session; verdict = Ok tt; taken = taken; written = r.at }) s.screen buf
      ≡ host_taken s₀ r₀.buffer.now input
  taking_done z lent e =
      let all : taken_of s₀ (length r₀.buffer.now) input ≡ taken = simp (z, sub-zero, e, add-zero) at t.count in
      let whole : part 0 taken input ≡ take taken input = rw sub-zero in
      let emitted = rw (z, whole) at t.replies.emitted in
      let said = emitted_whole (rw (← emitted.next) t.room) emitted in
      rw (lent (sym t.replies.same_buffer), all, t.state, emitted.next, zero-add, whole, said)

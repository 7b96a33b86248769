-- Host bytes, and one key: what is asked for them to be taken, what some bytes do, and what a call comes to.
use Rattle.std.specs.Prelude.{◌≡◌, Bool, false, List, [], ℕ, ◌+◌, ◌-◌, ◌≤◌, ◌<◌, length, get_or, drop, if◌then◌else◌, Ok}
use Rattle.telnet.specs.declared.Phase.{Phase}
use Rattle.telnet.specs.declared.Event.TheVariants.{Nothing, End}
use Rattle.telnet.specs.Reader.{tells, read_of}
use Rattle.telnet.specs.Stream.{part}
use Rattle.pad.specs.Parameters.{start_values, with_pair}
use Rattle.pad.specs.Line.{line_of}
use Rattle.pad.specs.Message.{idle_message}
use Rattle.pad.specs.Host.{prints_lf}
use Rattle.rules.specs.declared.Frame.{Frame}
use Rattle.rules.specs.declared.Reader.{Reader}
use Rattle.rules.specs.declared.Pad.{Pad}
use Rattle.rules.specs.Session.{Screen, State, pad_with, session, state, view}
use Rattle.rules.specs.Effect.{Effect}
use Rattle.rules.specs.Telnet.{held_after, cr_after}
use Rattle.rules.specs.Pad.{is_x3, pad_after}
use Rattle.rules.specs.Operation.{Outcome, reader_after, running, answering, taken_of, host_refusal, host_ran, key_ran}
use Rattle.reply.specs.declared.Reply.{Reply}
use Rattle.det.specs.declared.start.Start.{Start}
use Rattle.det.specs.declared.take.Turn.{Turn}
use Rattle.det.specs.declared.take.Told.{Told}
use Rattle.det.specs.Inner.Message.{in_message}
use Rattle.det.specs.Inner.Data.{det_effect}
use Rattle.det.specs.Inner.Apply.{Emits}

-- ---- what is asked

-- host bytes would be taken with what is left of the reply buffer from `at` on
abbrev pub Accepts : State → List ℕ → ℕ → Type 0
Accepts s reply at = host_refusal s (drop at reply) ≡ Ok tt

-- A fresh PAD whose parameter 13 has CR LF printed as such, or not. What a turn asks does not depend on the PAD otherwise, so it is asked
-- with this one.
abbrev pub fresh_with : Bool → Pad
fresh_with lf = pad_with (with_pair start_values 13 (if lf then 1 else 0)) (line_of []) idle_message

abbrev pub AcceptsTurn : Start → Screen → Reply → Type 0
AcceptsTurn h b r = Accepts (state (session h.frame.now h.reader.now (fresh_with h.lf)) b) r.buffer.now r.at

-- ---- some bytes of the input

-- Those from `from` to `end` are taken, and lead from s to s'; their replies are written. Of the rest as many are taken as the rules
-- say.
pub record Taking (s : State) (input : List ℕ) (from : ℕ) (r : Reply) (s' : State) (end : ℕ) (r' : Reply) : Type 0 where
  pub onward : from ≤ end
  pub within : end ≤ length input
  pub room : r'.at ≤ length r.buffer.now
  pub state : s' ≡ (running s (part from end input)).state
  pub replies : Emits r (running s (part from end input)).replies r'
  pub count : taken_of s (length r.buffer.now - r.at) (drop from input)
      ≡ (end - from) + taken_of s' (length r.buffer.now - r'.at) (drop end input)

-- those from `from` to `end` draw no reply, and lead from s to s'
pub record QuietRun (s : State) (input : List ℕ) (from : ℕ) (s' : State) (end : ℕ) : Type 0 where
  pub onward : from ≤ end
  pub within : end ≤ length input
  pub ran : running s (part from end input) ≡ record { state = s'; replies = []; executed = [] }

-- a turn that takes some bytes, which draw no reply and tell the PAD nothing; option 30 stays on or off, and the reader stands in no
-- message of it afterwards
pub record QuietTurn (s : State) (input : List ℕ) (from : ℕ) (t : Turn) (p : Pad) (b : Screen) : Type 0 where
  pub run : QuietRun s input from (state (session t.frame t.reader p) b) t.end
  pub nothing : t.event ≡ Nothing
  pub stands : in_message t.reader.phase ≡ false
  pub x3 : t.frame.x3 ≡ s.session.frame.x3

-- the same, whatever the PAD is whose parameter 13 it goes by
abbrev pub QuietTurns : Start → Screen → Turn → Screen → Type 0
QuietTurns h b t b' =
    (p : Pad) → prints_lf p.values ≡ h.lf → QuietTurn (state (session h.frame.now h.reader.now p) b) h.input.now h.from t p b'

-- what one byte tells
unfoldable pub told_of : Reader → ℕ → ℕ → Told
told_of r byte next =
    record { event = (read_of r.phase byte).event; held = r.held; reader = reader_after r byte; next = next }

-- What is told next to a reader at `from`: the bytes before the last one draw no reply and lead to what is held, whatever the frame, the
-- PAD and the screen are, and the last one tells it. It is no end of a message of option 30.
pub record Tells (r : Reader) (input : List ℕ) (from : ℕ) (t : Told) : Type 0 where
  pub last : ℕ
  pub phase : Phase
  pub before : Pad → Pad
  pub quiet : (f : Frame) (p : Pad) (b : Screen)
      → QuietRun (state (session f r p) b) input from
      (state (session f (record { phase = phase; held = t.held; cr = r.cr }) (before p)) b) last
  pub values : (p : Pad) → (before p).values ≡ p.values
  pub pad : (f : Frame) (p : Pad) → pad_after f (before p) t.event ≡ pad_after f p t.event
  pub lies : last < length input
  pub next : t.next ≡ last + 1
  pub step : tells t.reader.phase t.event ≡ read_of phase (get_or input last 0)
  pub held : t.reader.held ≡ held_after t.held t.event
  pub cr : t.reader.cr ≡ cr_after r.cr t.event
  pub unasked : (option : ℕ) → t.event ≡ End option → is_x3 option ≡ false

abbrev pub TellsNext : Start → Told → Type 0
TellsNext h t = Tells h.reader.now h.input.now h.from t

-- what is done on it
abbrev pub effect_at : Start → Told → List ℕ → Effect
effect_at h t attrs = det_effect (view h.frame.now attrs) h.lf t.held h.reader.now.cr t.event

-- A turn, whatever the PAD is whose parameter 13 it goes by: the PAD is then told what was told last.
abbrev pub Turns : Start → Screen → Reply → Turn → Screen → Reply → Type 0
Turns h b r t b' r' =
    (p : Pad) → prints_lf p.values ≡ h.lf → Accepts (state (session h.frame.now h.reader.now p) b) r.buffer.now r.at
    → Taking (state (session h.frame.now h.reader.now p) b) h.input.now h.from r
    (state (session t.frame t.reader (pad_after h.frame.now p t.event)) b') t.end r'

-- ---- what a call comes to

-- host bytes, and a key, that are not refused
abbrev pub host_taken : State → List ℕ → List ℕ → Outcome
host_taken s reply input = answering (taken_of s (length reply) input) (host_ran s reply input) reply

abbrev pub key_taken : State → List ℕ → ℕ → Outcome
key_taken s reply k = answering 1 (key_ran s k) reply

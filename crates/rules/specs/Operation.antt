-- Document 01, "Sizes and lent memory": the three operations, open, host bytes, one key. Document 02, request (vi): open with an edition.
use Rattle.std.specs.Prelude.{◌&&◌, List, [], ◌∷◌, ◌++◌, ℕ, suc, ◌-◌, leb, eqb, length, take, drop, replicate, if◌then◌else◌, Ok, Err}
use Rattle.telnet.specs.declared.Event.{Event}
use Rattle.telnet.specs.declared.Event.TheVariants.{Nothing, Data, Negotiation, Begin, Sub, End, EndBare, Lost}
use Rattle.telnet.specs.Reader.{read_of}
use Rattle.rules.specs.declared.Reader.{Reader}
use Rattle.rules.specs.declared.Pad.{Pad}
use Rattle.rules.specs.declared.Edition.TheVariants.{September}
use Rattle.rules.specs.declared.Refusal.{Refusal}
use Rattle.rules.specs.declared.Answer.{Answer}
use Rattle.rules.specs.Session.{Screen, State, View, cells, reply_room, session, fresh_frame, fresh, screen, state, view_of}
use Rattle.rules.specs.Number.{det_option}
use Rattle.rules.specs.Edition.{edition_of}
use Rattle.rules.specs.Refusal.{Test, Verdict, verdict, open_tests, size_tests, state_tests}
use Rattle.rules.specs.Effect.{Effect, Executed, changed_all, marks_after, spelled_all, saying, quiet}
use Rattle.rules.specs.Telnet.{held_after, cr_after, negotiated, host_data}
use Rattle.rules.specs.Pad.{pad_after, response, takes_key, line_tests, pad_typed, typed_to, passes}
use Rattle.rules.specs.Subcommand.{subcommand}
use Rattle.rules.specs.Key.{key_of, key_tests, pressed}

-- ---- what an effect does to a state

-- the state afterwards, the replies and the commands executed
pub record Ran : Type 0 where
  pub state : State
  pub replies : List ℕ
  pub executed : List Executed

-- the frame and the screen buffers that an effect leaves, with a reader and a PAD, and its reply as bytes
abbrev pub applied : State → Reader → Pad → Effect → Ran
applied s r p e =
    let b = s.screen in
    record {
      state =
          state (session e.view.frame r p)
          (screen (changed_all b.chars b.attrs e.changes) e.view.attrs (marks_after b.marks e.marking));
      replies = spelled_all b e.reply;
      executed = e.executed;
    }

-- ---- one host byte

-- What is done on what the reader told. A subnegotiation that ended is obeyed, with the bytes that were held, if it was option 20's and
-- DET is on; a message of option 30 may be answered.
unfoldable pub happening : View → Reader → Pad → Event → Effect
happening v r p Nothing = quiet v
happening v r p (Data b) = if passes v.frame p r.cr b then quiet v else host_data v b
happening v r p (Negotiation verb option) = negotiated v verb option
happening v r p (Begin option) = quiet v
happening v r p (Sub option b) = quiet v
happening v r p (End option) =
    if eqb option det_option && v.frame.det then subcommand v r.held else saying v (response v.frame p option)
happening v r p EndBare = quiet v
happening v r p Lost = quiet v

-- where the reader stands after a byte, and what it has read
abbrev pub reader_after : Reader → ℕ → Reader
reader_after r b =
    let step = read_of r.phase b in
    record { phase = step.phase; held = held_after r.held step.event; cr = cr_after r.cr step.event }

-- the reader reads it, and what it told is done
unfoldable pub host_byte : State → ℕ → Ran
host_byte s b =
    let r = s.session.reader in
    let p = s.session.pad in
    let told = (read_of r.phase b).event in
    applied s (reader_after r b) (pad_after s.session.frame p told) (happening (view_of s) r p told)

-- a list of them, one after the other, with no reply buffer in it
unfoldable pub running : State → List ℕ → Ran
running s [] = record { state = s; replies = []; executed = [] }
running s (b ∷ bs) =
    let one = host_byte s b in
    let rest = running one.state bs in
    record { state = rest.state; replies = one.replies ++ rest.replies; executed = one.executed ++ rest.executed }

-- ---- what a call returns and leaves

pub record Outcome : Type 0 where
  pub answer : Answer
  pub screen : Screen
  pub reply : List ℕ

abbrev pub outcome : Answer → Screen → List ℕ → Outcome
outcome answer b reply = record { answer = answer; screen = b; reply = reply }

-- the number, the session unchanged, counts of 0, and no lent buffer changed
abbrev pub refusing : Refusal → State → List ℕ → Outcome
refusing r s reply = outcome (record { session = s.session; verdict = Err r; taken = 0; written = 0 }) s.screen reply

-- the replies stand at the buffer's start; the bytes past those written stay as lent
abbrev pub answering : ℕ → Ran → List ℕ → Outcome
answering taken r reply =
    outcome (record { session = r.state.session; verdict = Ok tt; taken = taken; written = length r.replies }) r.state.screen
    (r.replies ++ drop (length r.replies) reply)

-- refused, or else done
unfoldable pub unless : Verdict → State → List ℕ → Outcome → Outcome
unless (Ok taken) s reply done = done
unless (Err r) s reply done = refusing r s reply

-- ---- host bytes

-- how many are taken from the front: while input is left and the reply buffer has room for one more reply
unfoldable pub taken_of : State → ℕ → List ℕ → ℕ
taken_of s free [] = 0
taken_of s free (b ∷ bs) =
    let one = host_byte s b in
    let rest = taken_of one.state (free - length one.replies) bs in
    if leb (reply_room s.session.frame) free then suc rest else 0

abbrev pub host_refusal : State → List ℕ → Verdict
host_refusal s reply = verdict (size_tests s.session.frame s.screen ++ state_tests s.session s.screen reply)

abbrev pub host_ran : State → List ℕ → List ℕ → Ran
host_ran s reply input = running s (take (taken_of s (length reply) input) input)

unfoldable pub host_bytes : State → List ℕ → List ℕ → Outcome
host_bytes s reply input =
    unless (host_refusal s reply) s reply (answering (taken_of s (length reply) input) (host_ran s reply input) reply)

-- ---- one key

-- the edit line takes it, or it has its meaning
abbrev pub press_tests : State → ℕ → List Test
press_tests s k =
    let f = s.session.frame in
    if takes_key f k then line_tests s.session.pad k else key_tests (view_of s) (key_of k)

abbrev pub press_effect : State → ℕ → Effect
press_effect s k =
    let f = s.session.frame in
    if takes_key f k then typed_to (view_of s) s.session.pad k else pressed (view_of s) (key_of k)

abbrev pub pad_pressed : State → ℕ → Pad
pad_pressed s k = let p = s.session.pad in if takes_key s.session.frame k then pad_typed p k else p

abbrev pub key_refusal : State → List ℕ → ℕ → Verdict
key_refusal s reply k =
    verdict
    (size_tests s.session.frame s.screen ++ (state_tests s.session s.screen reply ++ press_tests s k))

-- the reader stays where it is
abbrev pub key_ran : State → ℕ → Ran
key_ran s k = applied s s.session.reader (pad_pressed s k) (press_effect s k)

unfoldable pub one_key : State → List ℕ → ℕ → Outcome
one_key s reply k = unless (key_refusal s reply k) s reply (answering 1 (key_ran s k) reply)

-- ---- open

-- spaces, attribute bytes 0, no mark
abbrev pub blank : ℕ → Screen
blank n = screen (replicate n 32) (replicate n 0) (replicate n 0)

-- Open takes no session and lends no reply buffer; an edition is named. Refused, it returns a fresh session with M and N 0, of
-- September's edition.
unfoldable pub opened : ℕ → ℕ → ℕ → Screen → Outcome
opened m n named b =
    let f = fresh_frame m n (edition_of named) in
    let done : Ran = record { state = state (fresh m n (edition_of named)) (blank (cells f)); replies = []; executed = [] } in
    unless (verdict (open_tests f named b)) (state (fresh 0 0 September) b) [] (answering 0 done [])

-- Document 02, request (i): the X.3 PAD in the session. Its own rules are pad's; here is what reaches it, and when.
use Rattle.std.specs.Prelude.{Bool, false, not, ◌&&◌, List, [], ◌∷◌, ℕ, ltb, eqb, if◌then◌else◌}
use Rattle.telnet.specs.declared.Event.{Event}
use Rattle.telnet.specs.declared.Event.TheVariants.{Nothing, Data, Negotiation, Begin, Sub, End, EndBare, Lost}
use Rattle.telnet.specs.declared.Verb.{Verb}
use Rattle.telnet.specs.declared.Verb.TheVariants.{Will, Wont, Do, Dont}
use Rattle.telnet.specs.Writer.{subnegotiation}
use Rattle.pad.specs.declared.line.EditLine.{EditLine}
use Rattle.pad.specs.declared.message.Message.{Message}
use Rattle.pad.specs.Line.{text_of, line_of}
use Rattle.pad.specs.Message.{idle_message, begun, after_byte, ended}
use Rattle.pad.specs.Response.{response_of}
use Rattle.typing.specs.Keys.{overfills, line_after, out_of}
use Rattle.typing.specs.Echo.{echo_of}
use Rattle.pad.specs.Host.{prints_lf}
use Rattle.rules.specs.declared.Frame.{Frame}
use Rattle.rules.specs.declared.Pad.{Pad}
use Rattle.rules.specs.Number.{x3_option}
use Rattle.rules.specs.declared.Refusal.TheVariants.{LineFull}
use Rattle.rules.specs.Session.{View, pad_with, line_takes_keys}
use Rattle.rules.specs.Refusal.{Test, test}
use Rattle.rules.specs.Effect.{Effect, Part, bytes}
use Rattle.rules.specs.Telnet.{host_text}

abbrev pub is_x3 : ℕ → Bool
is_x3 option = eqb option x3_option

-- ---- what the reader told

-- a message counts that ends while option 30 is on
abbrev pub counts : Frame → ℕ → Bool
counts f option = is_x3 option && f.x3

-- DONT 30 while it is on empties the edit line, unsent
unfoldable pub empties : Frame → Verb → ℕ → Bool
empties f Dont option = is_x3 option && f.x3
empties f Do option = false
empties f Will option = false
empties f Wont option = false

abbrev pub with_message : Pad → Message → Pad
with_message p message = pad_with p.values p.line message

abbrev pub with_line : Pad → EditLine → Pad
with_line p line = pad_with p.values line p.message

-- The PAD afterwards. A message of option 30 begins at its option byte, from the values in force, and acts at its end or not at all; once
-- it has ended or was thrown away nothing of it is half read. The option byte, the end and the loss of any other subnegotiation clear
-- that too.
unfoldable pub pad_after : Frame → Pad → Event → Pad
pad_after f p Nothing = p
pad_after f p (Data b) = p
pad_after f p (Negotiation verb option) = with_line p (if empties f verb option then line_of [] else p.line)
pad_after f p (Begin option) = with_message p (if is_x3 option then begun p.values else idle_message)
pad_after f p (Sub option b) = with_message p (if is_x3 option then after_byte p.message b else p.message)
pad_after f p (End option) =
    pad_with (if counts f option then (ended p.values p.message).values else p.values) p.line idle_message
pad_after f p EndBare = with_message p idle_message
pad_after f p Lost = with_message p idle_message

-- SEND is answered by RESPONSE-IS
unfoldable pub response : Frame → Pad → ℕ → List Part
response f p option =
    if counts f option && (ended p.values p.message).asked
    then bytes (subnegotiation x3_option (response_of p.values)) ∷ []
    else []

-- ---- keys, while the line takes them

-- Option 30 on and DET off: the line takes 0 to 127, whatever they mean otherwise. The other keys keep their meaning.
abbrev pub takes_key : Frame → ℕ → Bool
takes_key f k = line_takes_keys f && ltb k 128

-- refusal 10; no other arises for them
unfoldable pub line_tests : Pad → ℕ → List Test
line_tests p k = test (not (overfills p.values (text_of p.line) k)) LineFull ∷ []

-- the PAD after such a key
unfoldable pub pad_typed : Pad → ℕ → Pad
pad_typed p k = with_line p (line_of (line_after p.values (text_of p.line) k))

-- what goes out, and what is echoed
abbrev pub sent_at : Pad → ℕ → List ℕ
sent_at p k = out_of p.values (text_of p.line) k

abbrev pub echoed_at : Pad → ℕ → List ℕ
echoed_at p k = echo_of p.values (text_of p.line) k

-- echo is written as host text
unfoldable pub typed_to : View → Pad → ℕ → Effect
typed_to v p k =
    let echo = host_text v (echoed_at p k) in
    record { view = echo.view; changes = echo.changes; marking = echo.marking; reply = bytes (sent_at p k) ∷ []; executed = [] }

-- ---- host data

-- CR LF is printed as CR while the line takes the keys, unless parameter 13 has it printed as such
abbrev pub joins : Frame → Pad → Bool
joins f p = line_takes_keys f && not (prints_lf p.values)

-- then an LF right after a CR is passed over
unfoldable pub passes : Frame → Pad → Bool → ℕ → Bool
passes f p cr b = joins f p && (cr && eqb b 10)

-- A session as a byte string: 212 bytes that the caller keeps.
--
--   0           the layout's version, 4
--   1, 2        M, N
--   3, 4        the cursor's x, y
--   5, 6, 7     DET on, option 30 on, protection suppressed: 0 no, 1 yes
--   8, 9        where the reader of Telnet bytes stands, 0 to 9; the option of the subnegotiation it is in, 0 outside one
--   10          how many bytes are held after a subnegotiation's option byte
--   11 to 16    the six held bytes
--   17          the last byte of data was a CR: 0 no, 1 yes
--   18 to 45    the values of the PAD's 28 parameters, in the list's order
--   46          how long the edit line is
--   47 to 174   the edit line's 128 bytes
--   175         what is next in a message of option 30: 0 its code, 1 a parameter, 2 a value
--   176, 177    the message's code, 0 where it is next; the parameter that waits for its value, 0 where none does
--   178 to 205  the message's copy of the 28 values
--   206 to 210  the facility maps received, of any value: edit, erase, transmit, the two bytes of format
--   211         the edition: 0 June's (RFC 731), 1 September's (RFC 732)
use Rattle.std.specs.Prelude.{Bool, true, false, ◌&&◌, ◌||◌, List, [], ◌∷◌, ◌++◌, ℕ, ◌+◌, leb, eqb, length, get_or, if◌then◌else◌}
use Rattle.telnet.specs.declared.Verb.{Verb}
use Rattle.telnet.specs.declared.Verb.TheVariants.{Will, Wont, Do, Dont}
use Rattle.telnet.specs.declared.Phase.{Phase}
use Rattle.telnet.specs.declared.Phase.TheVariants.{Rest, Iac, Negotiating, Opening, OpeningIac, Inside, InsideIac}
use Rattle.pad.specs.declared.line.EditLine.{EditLine}
use Rattle.pad.specs.declared.message.Message.{Message}
use Rattle.pad.specs.declared.message.Stage.{Stage}
use Rattle.pad.specs.declared.message.Stage.TheVariants.{Code, Parameter, Value}
use Rattle.words.specs.Words.{tabulate}
use Rattle.screen.specs.Cells.{place}
use Rattle.rules.specs.declared.Maps.{Maps}
use Rattle.rules.specs.declared.Edition.{Edition}
use Rattle.rules.specs.declared.Edition.TheVariants.{June, September}
use Rattle.rules.specs.declared.Frame.{Frame}
use Rattle.rules.specs.declared.Reader.{Reader}
use Rattle.rules.specs.declared.Pad.{Pad}
use Rattle.rules.specs.declared.Session.{Session}
use Rattle.rules.specs.Session.{session, pad_with}
use Rattle.layout.specs.declared.number.PhaseBytes.{PhaseBytes}
use Rattle.layout.specs.declared.number.StageBytes.{StageBytes}

abbrev pub session_length : ℕ
session_length = 212

-- The layouts before this one: 15 bytes and no version; 206 bytes and version 2, with no maps; 211 bytes and version 3, with no edition.
abbrev pub version : ℕ
version = 4

-- ---- from a session to its bytes

abbrev pub bit_of : Bool → ℕ
bit_of false = 0
bit_of true = 1

abbrev pub phase_at : ℕ → ℕ → PhaseBytes
phase_at number option = record { number = number; option = option }

-- after IAC and a verb
unfoldable pub verb_number : Verb → ℕ
verb_number Will = 2
verb_number Wont = 3
verb_number Do = 4
verb_number Dont = 5

-- where the reader stands, and the option of the subnegotiation that it is in
unfoldable pub phase_bytes : Phase → PhaseBytes
phase_bytes Rest = phase_at 0 0
phase_bytes Iac = phase_at 1 0
phase_bytes (Negotiating verb) = phase_at (verb_number verb) 0
phase_bytes Opening = phase_at 6 0
phase_bytes OpeningIac = phase_at 7 0
phase_bytes (Inside option) = phase_at 8 option
phase_bytes (InsideIac option) = phase_at 9 option

abbrev pub stage_at : ℕ → ℕ → ℕ → StageBytes
stage_at number code parameter = record { number = number; code = code; parameter = parameter }

-- what is next in a message, its code, and the parameter that waits for its value
unfoldable pub stage_bytes : Stage → StageBytes
stage_bytes Code = stage_at 0 0 0
stage_bytes (Parameter code) = stage_at 1 code 0
stage_bytes (Value code parameter) = stage_at 2 code parameter

unfoldable pub edition_number : Edition → ℕ
edition_number June = 0
edition_number September = 1

-- 0 to 7: the frame, but for its maps and its edition
abbrev pub frame_bytes : Frame → List ℕ
frame_bytes f =
    version ∷ f.width ∷ f.height ∷ f.cursor.x.0 ∷ f.cursor.y.0 ∷ bit_of f.det ∷ bit_of f.x3 ∷ bit_of f.suppressed ∷ []

-- 8 to 17
abbrev pub reader_bytes : Reader → List ℕ
reader_bytes r =
    let at = phase_bytes r.phase in
    at.number ∷ at.option ∷ r.held.count ∷ (r.held.bytes ++ (bit_of r.cr ∷ []))

-- 46 to 174
abbrev pub line_bytes : EditLine → List ℕ
line_bytes l = l.len ∷ l.bytes

-- 175 to 205
abbrev pub message_bytes : Message → List ℕ
message_bytes m =
    let next = stage_bytes m.stage in
    next.number ∷ next.code ∷ next.parameter ∷ m.copy.held

-- 18 to 205
abbrev pub pad_bytes : Pad → List ℕ
pad_bytes p = p.values.held ++ (line_bytes p.line ++ message_bytes p.message)

-- 206 to 211: the rest of the frame
abbrev pub rest_bytes : Frame → List ℕ
rest_bytes f =
    let m = f.received in
    m.edit ∷ m.erase ∷ m.transmit ∷ m.format0 ∷ m.format1 ∷ edition_number f.edition ∷ []

unfoldable pub encoded : Session → List ℕ
encoded s = frame_bytes s.frame ++ (reader_bytes s.reader ++ (pad_bytes s.pad ++ rest_bytes s.frame))

-- what a place for a session then holds: one of another length is left as it is
unfoldable pub stored : Session → List ℕ → List ℕ
stored s bytes = if eqb (length bytes) session_length then encoded s else bytes

-- ---- and back

-- a byte, and some in a row: what lies beyond the end is 0
abbrev pub byte_at : List ℕ → ℕ → ℕ
byte_at bytes i = get_or bytes i 0

abbrev pub bytes_from : List ℕ → ℕ → ℕ → List ℕ
bytes_from bytes from count = tabulate (λ k. byte_at bytes (from + k)) 0 count

-- the four flags and the edition are 0 or 1
abbrev pub is_flag : ℕ → Bool
is_flag b = leb b 1

abbrev pub has_flags : List ℕ → Bool
has_flags bytes =
    let at = byte_at bytes in
    is_flag (at 5) && (is_flag (at 6) && (is_flag (at 7) && (is_flag (at 17) && is_flag (at 211))))

-- the reader's place is one of the ten, and an option stands only where one is being read
abbrev pub is_phase : ℕ → ℕ → Bool
is_phase number option = leb number 9 && (leb 8 number || eqb option 0)

-- the stage is one of the three: neither a code nor a parameter is read, a code alone, or both
abbrev pub is_stage : ℕ → ℕ → ℕ → Bool
is_stage number code parameter =
    if eqb number 0 then eqb code 0 && eqb parameter 0 else if eqb number 1 then eqb parameter 0 else eqb number 2

-- both
abbrev pub has_places : List ℕ → Bool
has_places bytes = let at = byte_at bytes in is_phase (at 8) (at 9) && is_stage (at 175) (at 176) (at 177)

-- Numbers merely out of range, such as a cursor off the screen, are for the rules to refuse.
unfoldable pub is_session : List ℕ → Bool
is_session bytes =
    eqb (length bytes) session_length && (eqb (byte_at bytes 0) version && (has_flags bytes && has_places bytes))

unfoldable pub phase_of : ℕ → ℕ → Phase
phase_of number option =
    if eqb number 0 then Rest
    else if eqb number 1 then Iac
    else if eqb number 2 then Negotiating Will
    else if eqb number 3 then Negotiating Wont
    else if eqb number 4 then Negotiating Do
    else if eqb number 5 then Negotiating Dont
    else if eqb number 6 then Opening
    else if eqb number 7 then OpeningIac
    else if eqb number 8 then Inside option
    else InsideIac option

unfoldable pub stage_of : ℕ → ℕ → ℕ → Stage
stage_of number code parameter = if eqb number 0 then Code else if eqb number 1 then Parameter code else Value code parameter

unfoldable pub edition_numbered : ℕ → Edition
edition_numbered number = if eqb number 0 then June else September

unfoldable pub maps_in : List ℕ → Maps
maps_in bytes =
    let at = byte_at bytes in
    record { edit = at 206; erase = at 207; transmit = at 208; format0 = at 209; format1 = at 210 }

unfoldable pub frame_in : List ℕ → Frame
frame_in bytes =
    let at = byte_at bytes in
    record {
      width = at 1;
      height = at 2;
      edition = edition_numbered (at 211);
      cursor = place (at 3) (at 4);
      det = eqb (at 5) 1;
      x3 = eqb (at 6) 1;
      suppressed = eqb (at 7) 1;
      received = maps_in bytes;
    }

unfoldable pub reader_in : List ℕ → Reader
reader_in bytes =
    let at = byte_at bytes in
    record {
      phase = phase_of (at 8) (at 9);
      held = record { bytes = bytes_from bytes 11 6; count = at 10 };
      cr = eqb (at 17) 1;
    }

unfoldable pub pad_in : List ℕ → Pad
pad_in bytes =
    let at = byte_at bytes in
    pad_with (record { held = bytes_from bytes 18 28 }) (record { bytes = bytes_from bytes 47 128; len = at 46 })
    (record { stage = stage_of (at 175) (at 176) (at 177); copy = record { held = bytes_from bytes 178 28 } })

unfoldable pub decoded : List ℕ → Session
decoded bytes = session (frame_in bytes) (reader_in bytes) (pad_in bytes)

-- names all of the above: under `unfolding layouts` a proof computes with them
unfoldable pub layouts : ℕ
unfolding verb_number phase_bytes stage_bytes edition_number encoded stored is_session phase_of stage_of edition_numbered maps_in frame_in reader_in
    pad_in decoded
layouts = 0

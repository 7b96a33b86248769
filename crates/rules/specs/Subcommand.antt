-- Document 01, "Subcommands", and document 02, requests (ii), (iii), (v) and (vi): what each does.
use Rattle.std.specs.Prelude.{Bool, true, false, List, [], ◌∷◌, ℕ, zero, suc, ◌+◌, eqb, replicate, if◌then◌else◌, Option, Some, None, Result, Ok, Err, ⊤}
use Rattle.telnet.specs.declared.Verb.{Verb}
use Rattle.telnet.specs.declared.Verb.TheVariants.{Will, Wont, Do, Dont}
use Rattle.telnet.specs.Reader.{verb_code}
use Rattle.telnet.specs.Writer.{subnegotiation}
use Rattle.screen.specs.declared.cell.Place.{Place}
use Rattle.edit.specs.declared.range.Shift.{Shift}
use Rattle.screen.specs.Words.{some_in}
use Rattle.screen.specs.Cells.{place_of, line_start, line_end}
use Rattle.screen.specs.Attributes.{guarded_at}
use Rattle.screen.specs.Fields.{opens_at, field_start, field_end, span_end}
use Rattle.edit.specs.Edits.{filled}
use Rattle.rules.specs.declared.Held.{Held}
use Rattle.rules.specs.declared.Destination.TheVariants.{Corner, LineStart, NextLine, FirstField}
use Rattle.rules.specs.declared.Area.{Area}
use Rattle.rules.specs.declared.Area.TheVariants.{
  WholeScreen,
  Unprotected,
  WholeLine,
  WholeField,
  RestOfScreen,
  RestOfLine,
  RestOfField,
}
use Rattle.rules.specs.declared.Command.{Command}
use Rattle.rules.specs.declared.Command.TheVariants.{
  Facilities,
  MoveCursor,
  SkipToLine,
  SkipToChar,
  Move,
  LineShift,
  CharShift,
  ReadCursor,
  Transmit,
  TransmitModified,
  Erase,
  FormatData,
  Repeat,
  SuppressProtection,
  Error,
}
use Rattle.rules.specs.declared.Edition.{Edition}
use Rattle.rules.specs.declared.Fault.{Fault}
use Rattle.rules.specs.declared.Fault.TheVariants.{
  NotAgreed,
  UnknownCode,
  OffScreen,
  TooManyParameters,
  TooFewParameters,
  BadValue,
  BadMap,
}
use Rattle.rules.specs.Session.{View, with_received, cursor_cell, screen_end, with_cursor, with_modes, with_frame, with_attrs}
use Rattle.rules.specs.Number.{det_option, cursor_position, data_transmit, suppress_protection, field_separator, error, fault_number}
use Rattle.rules.specs.Edition.{code_for}
use Rattle.rules.specs.Facility.{own_map, receiving}
use Rattle.rules.specs.Command.{Row, row_of, code_in, parameter, place_in, format_count, fault_of}
use Rattle.rules.specs.Effect.{
  Effect,
  Part,
  bytes,
  text,
  where_marked,
  erase,
  shift,
  message,
  changing,
  saying,
  quiet,
  writing,
  clearing,
}
use Rattle.rules.specs.Cursor.{cursor_guarded, limited, skipped_to_line, skipped_to_char, destination, sent_to}
use Rattle.rules.specs.Telnet.{host_characters}

-- ---- transmissions

-- every transmission starts with 28 and the place of the first cell it sends
abbrev pub preface_bytes : Edition → Place → List ℕ
preface_bytes e p = subnegotiation det_option (code_for e data_transmit ∷ p.x.0 ∷ p.y.0 ∷ [])

abbrev pub preface : View → Place → Part
preface v p = bytes (preface_bytes v.frame.edition p)

-- 21: the text of every unprotected field in order, of the n cells from i on, 39 before each
unfoldable pub field_texts : Edition → List ℕ → ℕ → ℕ → List Part
field_texts e attrs i zero = []
field_texts e attrs i (suc n) =
    let rest = field_texts e attrs (suc i) n in
    if opens_at attrs i then message (code_for e field_separator ∷ []) ∷ text i (field_end attrs i) ∷ rest else rest

-- 39 stands between each two, so not before the first
abbrev pub without_first : List Part → List Part
without_first [] = []
without_first (p ∷ ps) = ps

-- the cursor's field from a cell on; on a guarded cell the preface names the cursor, and nothing follows it
abbrev pub unless_guarded : View → Part → List Part
unless_guarded v p = if cursor_guarded v then [] else p ∷ []

abbrev pub field_from : View → ℕ → Effect
field_from v from =
    saying v
    (preface v (if cursor_guarded v then v.frame.cursor else place_of v.frame.width from)
    ∷ unless_guarded v (text from (field_end v.attrs (cursor_cell v))))

unfoldable pub transmitted : View → Area → Effect
-- 20: the whole screen; the cursor goes to the corner
transmitted v WholeScreen = saying (sent_to v Corner) (preface v (destination v Corner) ∷ text 0 (screen_end v) ∷ [])
-- 21: every unprotected field, and the cursor to the first of them
transmitted v Unprotected =
    saying (sent_to v FirstField)
    (preface v (destination v FirstField) ∷ without_first (field_texts v.frame.edition v.attrs 0 (screen_end v)))
-- 22: the line of the cursor, which then goes to the start of the line below, or of its own where there is none
transmitted v WholeLine =
    let f = v.frame in
    saying (sent_to v NextLine)
    (preface v (destination v LineStart) ∷ text (line_start f.width f.cursor.y) (line_end f.width f.cursor.y) ∷ [])
-- 24, 25: what is left of the screen, or of the line, from the cursor on
transmitted v RestOfScreen = saying v (preface v v.frame.cursor ∷ text (cursor_cell v) (screen_end v) ∷ [])
transmitted v RestOfLine =
    let f = v.frame in saying v (preface v f.cursor ∷ text (cursor_cell v) (line_end f.width f.cursor.y) ∷ [])
-- 23, 26: the field that the cursor is in, or what is left of it
transmitted v WholeField = field_from v (field_start v.attrs (cursor_cell v))
transmitted v RestOfField = field_from v (cursor_cell v)

-- 27: every unprotected field of the n cells from i on that has a marked cell, each after a preface of its own
unfoldable pub modified_texts : Edition → ℕ → List ℕ → ℕ → ℕ → List Part
modified_texts e width attrs i zero = []
modified_texts e width attrs i (suc n) =
    let rest = modified_texts e width attrs (suc i) n in
    if opens_at attrs i then where_marked (preface_bytes e (place_of width i)) i (field_end attrs i) ∷ rest else rest

-- the cursor goes where 21 leaves it, and all marks are cleared
abbrev pub transmitted_modified : View → Effect
transmitted_modified v =
    let f = v.frame in clearing (saying (sent_to v FirstField) (modified_texts f.edition f.width v.attrs 0 (screen_end v)))

-- ---- erasures

unfoldable pub erasure : View → Area → Effect
-- 29: a blank screen with nothing protected and nothing marked, and the cursor in its corner
erasure v WholeScreen =
    clearing (changing (with_attrs (sent_to v Corner) (replicate (screen_end v) 0)) (erase true 0 (screen_end v) ∷ []))
-- 35: the open cells of the form are blanked, and all marks cleared; the cursor goes where 21 leaves it
erasure v Unprotected = clearing (changing (sent_to v FirstField) (erase false 0 (screen_end v) ∷ []))
-- 30 to 34: the line, the field, and the rests of screen, line and field are blanked where they are not guarded
erasure v WholeLine =
    let f = v.frame in
    changing v (erase f.suppressed (line_start f.width f.cursor.y) (line_end f.width f.cursor.y) ∷ [])
erasure v WholeField =
    changing v (erase v.frame.suppressed (field_start v.attrs (cursor_cell v)) (field_end v.attrs (cursor_cell v)) ∷ [])
erasure v RestOfScreen = changing v (erase v.frame.suppressed (cursor_cell v) (screen_end v) ∷ [])
erasure v RestOfLine =
    let f = v.frame in changing v (erase f.suppressed (cursor_cell v) (line_end f.width f.cursor.y) ∷ [])
erasure v RestOfField = changing v (erase v.frame.suppressed (cursor_cell v) (field_end v.attrs (cursor_cell v)) ∷ [])

-- ---- the others

-- the cell after the edit span's last
abbrev pub cursor_span_end : View → ℕ
cursor_span_end v =
    let f = v.frame in span_end f.suppressed v.attrs (cursor_cell v) (line_end f.width f.cursor.y)

-- a shift marks every cell of its range, changed or not
abbrev pub shifting_cells : View → Shift → ℕ → ℕ → ℕ → Effect
shifting_cells v s from end by = writing v (shift s from end by) from end

-- 15 and 16: nothing on a guarded cell, else the edit span shifted by one
abbrev pub shifting : View → Shift → Effect
shifting v s = if cursor_guarded v then quiet v else shifting_cells v s (cursor_cell v) (cursor_span_end v) 1

-- the cells from the start of the cursor's line to the end of the screen: the first, and whether any is guarded
abbrev pub cursor_line_start : View → ℕ
cursor_line_start v = line_start v.frame.width v.frame.cursor.y

abbrev pub lines_guarded : View → Bool
lines_guarded v = some_in (guarded_at v.frame.suppressed v.attrs) (cursor_line_start v) (screen_end v)

-- 13 and 14: nothing where one of them is guarded, else all of them shifted by a line
abbrev pub line_shifting : View → Shift → Effect
line_shifting v s = if lines_guarded v then quiet v else shifting_cells v s (cursor_line_start v) (screen_end v) v.frame.width

-- 38: suppress, end it, and the two questions, answered as in negotiation
abbrev pub suppression_answer : View → Verb → Part
suppression_answer v verb = message (code_for v.frame.edition suppress_protection ∷ verb_code verb ∷ [])

unfoldable pub suppressing : View → ℕ → Effect
suppressing v p =
    let f = v.frame in
    if eqb p (verb_code Do) then saying (with_modes v f.det true) (if f.suppressed then [] else suppression_answer v Will ∷ [])
    else if eqb p (verb_code Dont) then saying (with_modes v f.det false) (if f.suppressed then suppression_answer v Wont ∷ [] else [])
    else if eqb p (verb_code Will) then saying v (suppression_answer v Dont ∷ [])
    else quiet v

-- a command that draws no ERROR
unfoldable pub obeyed : View → Command → Held → Effect
-- 1, 2, 3, 4: the map received is kept, and the terminal's own answered
obeyed v (Facilities facility) h =
    let f = v.frame in
    let received = receiving f.received facility (parameter h 0) (parameter h 1) in
    saying (with_frame v (with_received f received)) (message (own_map f.edition facility) ∷ [])
-- 5
obeyed v MoveCursor h = quiet (with_cursor v (limited v.frame (place_in h)))
-- 6, 7
obeyed v SkipToLine h = quiet (with_cursor v (skipped_to_line v.frame (parameter h 0)))
obeyed v SkipToChar h = quiet (with_cursor v (skipped_to_char v.frame (parameter h 0)))
-- 8, 9, 10, 11, 12, 19
obeyed v (Move to) h = quiet (sent_to v to)
-- 13, 14
obeyed v (LineShift s) h = line_shifting v s
-- 15, 16
obeyed v (CharShift s) h = shifting v s
-- 17: answer 18 x y
obeyed v ReadCursor h =
    let f = v.frame in saying v (message (code_for f.edition cursor_position ∷ f.cursor.x.0 ∷ f.cursor.y.0 ∷ []) ∷ [])
-- 20 to 26
obeyed v (Transmit area) h = transmitted v area
-- 27
obeyed v TransmitModified h = transmitted_modified v
-- 29 to 35
obeyed v (Erase area) h = erasure v area
-- 36: attribute bytes only, from the cursor on
obeyed v FormatData h =
    quiet (with_attrs v (filled (cursor_cell v) (cursor_cell v + format_count h) (parameter h 0) v.attrs))
-- 37: as if the host had sent the character so often
obeyed v Repeat h = host_characters (parameter h 0) v (parameter h 1)
-- 38
obeyed v SuppressProtection h = suppressing v (parameter h 0)
-- 41: taken and forgotten
obeyed v Error h = quiet v

-- ---- check order and ERROR

-- 41, the command by the code that it came with, and the number; nothing changes
abbrev pub erring : View → ℕ → Fault → Effect
erring v code fault = saying v (message (code_for v.frame.edition error ∷ code ∷ fault_number fault ∷ []) ∷ [])

-- obeyed, and so executed; or an ERROR, which MOVE CURSOR draws after it has limited
unfoldable pub judged : View → Row → Held → Result ⊤ Fault → Effect
judged v r h (Ok passed) =
    let e = obeyed v r.command h in
    record {
      view = e.view;
      changes = e.changes;
      marking = e.marking;
      reply = e.reply;
      executed = record { row = r; held = h } ∷ [];
    }
judged v r h (Err OffScreen) = erring (with_cursor v (limited v.frame (place_in h))) (code_in h) OffScreen
judged v r h (Err NotAgreed) = erring v (code_in h) NotAgreed
judged v r h (Err UnknownCode) = erring v (code_in h) UnknownCode
judged v r h (Err TooManyParameters) = erring v (code_in h) TooManyParameters
judged v r h (Err TooFewParameters) = erring v (code_in h) TooFewParameters
judged v r h (Err BadValue) = erring v (code_in h) BadValue
judged v r h (Err BadMap) = erring v (code_in h) BadMap

unfoldable pub looked : View → Option Row → Held → Effect
looked v None h = erring v (code_in h) UnknownCode
looked v (Some r) h = judged v r h (fault_of v r.command r.parameters r.governor h)

-- a subnegotiation of option 20 that ended while DET is on, with these bytes held; no command byte: ERROR 10 with command 0
unfoldable pub subcommand : View → Held → Effect
subcommand v h = if eqb h.count 0 then erring v 0 TooFewParameters else looked v (row_of v.frame.edition (code_in h)) h

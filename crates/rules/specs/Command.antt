-- Document 01, "Subcommands", and document 02, requests (ii), (iii), (v) and (vi): the list of commands, what governs each, the ERROR
-- that one draws, and the seven that reach past protection.
use Rattle.std.specs.Prelude.{Bool, true, false, not, ◌&&◌, List, [], ◌∷◌, ℕ, suc, ◌+◌, ◌*◌, leb, ltb, eqb, get_or, if◌then◌else◌, Option, Some, None, Result, Ok, Err, ⊤}
use Rattle.telnet.specs.Reader.{verb_code}
use Rattle.telnet.specs.declared.Verb.TheVariants.{Will, Do, Dont}
use Rattle.edit.specs.declared.range.Shift.TheVariants.{Insertion, Deletion}
use Rattle.screen.specs.declared.cell.Place.{Place}
use Rattle.words.specs.Words.{between}
use Rattle.screen.specs.Cells.{place, on_screen}
use Rattle.rules.specs.declared.Held.{Held}
use Rattle.rules.specs.declared.Facility.TheVariants.{Editing, Erasing, Transmitting, Formatting}
use Rattle.rules.specs.declared.Destination.TheVariants.{Up, Down, Left, Right, Home, ReverseTab}
use Rattle.rules.specs.declared.Area.TheVariants.{
  WholeScreen,
  Unprotected,
  WholeLine,
  WholeField,
  RestOfScreen,
  RestOfLine,
  RestOfField,
}
use Rattle.rules.specs.declared.Command.{Command}
use Rattle.rules.specs.declared.Command.TheVariants.{
  Facilities,
  MoveCursor,
  SkipToLine,
  SkipToChar,
  Move,
  LineShift,
  CharShift,
  ReadCursor,
  Transmit,
  TransmitModified,
  Erase,
  FormatData,
  Repeat,
  SuppressProtection,
  Error,
}
use Rattle.rules.specs.declared.Governor.{Governor}
use Rattle.rules.specs.declared.Edition.{Edition}
use Rattle.rules.specs.declared.Code.{Code}
use Rattle.rules.specs.declared.Fault.{Fault}
use Rattle.rules.specs.declared.Fault.TheVariants.{
  NotAgreed,
  OffScreen,
  TooManyParameters,
  TooFewParameters,
  BadValue,
  BadMap,
}
use Rattle.rules.specs.Session.{View, printable, cursor_cell, screen_end}
use Rattle.rules.specs.Edition.{meant_by}
use Rattle.rules.specs.Facility.{
  toroidal_addressing,
  incremental_addressing,
  read_cursor_address,
  line_insert_delete,
  char_insert_delete,
  back_tab,
  erase_field,
  erase_line,
  erase_rest_of_screen,
  erase_rest_of_line,
  erase_rest_of_field,
  transmit_line,
  transmit_field,
  transmit_rest_of_screen,
  transmit_rest_of_line,
  transmit_rest_of_field,
  modified_facility,
  repeating,
  protection_on_off,
  protection_facility,
  agreed,
}

-- ---- the list

-- whether a command reaches past protection when it is executed: never, always, or with this first parameter
pub data Reach : Type 0 where
  never : Reach
  always : Reach
  only_with : ℕ → Reach

pub record Row : Type 0 where
  pub code : ℕ
  pub command : Command
  pub parameters : ℕ
  pub governor : Option Governor
  pub past : Reach

abbrev pub row : ℕ → Command → ℕ → Option Governor → Reach → Row
row code command parameters governor past =
    record { code = code; command = command; parameters = parameters; governor = governor; past = past }

-- Each command by its code in document 01, with its number of parameters: one map byte for 1 to 3, two for 4, none where none are
-- listed. Then the facility that governs it (request (ii)), if one does. The last column marks the seven that reach past protection. All
-- other codes draw ERROR 2.
unfoldable pub rows : List Row
rows =
    row 1 (Facilities Editing) 1 None never
    ∷ row 2 (Facilities Erasing) 1 None never
    ∷ row 3 (Facilities Transmitting) 1 None never
    ∷ row 4 (Facilities Formatting) 2 None never
    ∷ row 5 MoveCursor 2 None never
    ∷ row 6 SkipToLine 1 toroidal_addressing never
    ∷ row 7 SkipToChar 1 toroidal_addressing never
    ∷ row 8 (Move Up) 0 incremental_addressing never
    ∷ row 9 (Move Down) 0 incremental_addressing never
    ∷ row 10 (Move Left) 0 incremental_addressing never
    ∷ row 11 (Move Right) 0 incremental_addressing never
    ∷ row 12 (Move Home) 0 None never
    ∷ row 13 (LineShift Insertion) 0 line_insert_delete never
    ∷ row 14 (LineShift Deletion) 0 line_insert_delete never
    ∷ row 15 (CharShift Insertion) 0 char_insert_delete never
    ∷ row 16 (CharShift Deletion) 0 char_insert_delete never
    ∷ row 17 ReadCursor 0 read_cursor_address never
    ∷ row 19 (Move ReverseTab) 0 back_tab never
    ∷ row 20 (Transmit WholeScreen) 0 None always
    ∷ row 21 (Transmit Unprotected) 0 protection_facility never
    ∷ row 22 (Transmit WholeLine) 0 transmit_line always
    ∷ row 23 (Transmit WholeField) 0 transmit_field never
    ∷ row 24 (Transmit RestOfScreen) 0 transmit_rest_of_screen always
    ∷ row 25 (Transmit RestOfLine) 0 transmit_rest_of_line always
    ∷ row 26 (Transmit RestOfField) 0 transmit_rest_of_field never
    ∷ row 27 TransmitModified 0 modified_facility never
    ∷ row 29 (Erase WholeScreen) 0 None always
    ∷ row 30 (Erase WholeLine) 0 erase_line never
    ∷ row 31 (Erase WholeField) 0 erase_field never
    ∷ row 32 (Erase RestOfScreen) 0 erase_rest_of_screen never
    ∷ row 33 (Erase RestOfLine) 0 erase_rest_of_line never
    ∷ row 34 (Erase RestOfField) 0 erase_rest_of_field never
    ∷ row 35 (Erase Unprotected) 0 protection_facility never
    ∷ row 36 FormatData 4 None always
    ∷ row 37 Repeat 2 repeating never
    ∷ row 38 SuppressProtection 1 protection_on_off (only_with (verb_code Do))
    ∷ row 41 Error 2 None never
    ∷ []

-- a code's row, if it is in the list
unfoldable pub row_in : List Row → ℕ → Option Row
row_in [] code = None
row_in (r ∷ rs) code = if eqb code r.code then Some r else row_in rs code

-- what a code received stands for in an edition (request (vi))
abbrev pub row_of : Edition → ℕ → Option Row
row_of e code = row_in rows (meant_by e code)

-- what the list says of a code
unfoldable pub meaning : Option Row → Option Code
meaning (Some r) = Some (record { command = r.command; parameters = r.parameters; governor = r.governor })
meaning None = None

-- ---- a command's bytes

-- the code, and parameter i, of the bytes held
abbrev pub code_in : Held → ℕ
code_in h = get_or h.bytes 0 0

abbrev pub parameter : Held → ℕ → ℕ
parameter h i = get_or h.bytes (suc i) 0

-- 5: the place that x and y name
abbrev pub place_in : Held → Place
place_in h = place (parameter h 0) (parameter h 1)

-- 36: the count of two bytes, high first
abbrev pub format_count : Held → ℕ
format_count h = parameter h 2 * 256 + parameter h 3

-- executed with these bytes, does it reach past protection
unfoldable pub reaches : Reach → ℕ → Bool
reaches never p = false
reaches always p = true
reaches (only_with value) p = eqb p value

abbrev pub reaches_past : Row → Held → Bool
reaches_past r h = reaches r.past (parameter h 0)

-- ---- ERROR

-- the ERROR that the parameters' values draw, their count being right
unfoldable pub value_fault : View → Command → Held → Result ⊤ Fault
value_fault v MoveCursor h = if on_screen v.frame.width v.frame.height (place_in h) then Ok tt else Err OffScreen
value_fault v FormatData h =
    if not (leb (parameter h 0) 31 && eqb (parameter h 1) 0) then Err BadMap
    else if leb (cursor_cell v + format_count h) (screen_end v) then Ok tt
    else Err BadValue
value_fault v Repeat h = if printable (parameter h 1) then Ok tt else Err BadValue
value_fault v SuppressProtection h = if between (verb_code Will) (verb_code Dont) (parameter h 0) then Ok tt else Err BadValue
value_fault v (Facilities facility) h = Ok tt
value_fault v SkipToLine h = Ok tt
value_fault v SkipToChar h = Ok tt
value_fault v (Move to) h = Ok tt
value_fault v (LineShift s) h = Ok tt
value_fault v (CharShift s) h = Ok tt
value_fault v ReadCursor h = Ok tt
value_fault v (Transmit area) h = Ok tt
value_fault v TransmitModified h = Ok tt
value_fault v (Erase area) h = Ok tt
value_fault v Error h = Ok tt

-- Check order, the code being known: its facility agreed, else 1; parameter count, else 10 (too few) or 9 (too many); then values. The
-- code is among the bytes held.
unfoldable pub fault_of : View → Command → ℕ → Option Governor → Held → Result ⊤ Fault
fault_of v c parameters governor h =
    if not (agreed v.frame.edition v.frame.received governor) then Err NotAgreed
    else if ltb h.count (parameters + 1) then Err TooFewParameters
    else if ltb (parameters + 1) h.count then Err TooManyParameters
    else value_fault v c h

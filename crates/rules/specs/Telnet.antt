-- Document 01, "Telnet bytes" and the last paragraph of "Cells, fields and guards": held bytes, negotiation, host data.
use Rattle.std.specs.Prelude.{Bool, true, false, List, [], ◌∷◌, ◌++◌, ℕ, zero, suc, ◌+◌, leb, ltb, eqb, set, if◌then◌else◌, Option, Some, None}
use Rattle.telnet.specs.declared.Event.{Event}
use Rattle.telnet.specs.declared.Event.TheVariants.{Nothing, Data, Negotiation, Begin, Sub, End, EndBare, Lost}
use Rattle.telnet.specs.declared.Verb.{Verb}
use Rattle.telnet.specs.declared.Verb.TheVariants.{Will, Wont, Do, Dont}
use Rattle.telnet.specs.Writer.{negotiation}
use Rattle.rules.specs.declared.Held.{Held}
use Rattle.rules.specs.declared.Frame.{Frame}
use Rattle.rules.specs.declared.TelnetOption.{TelnetOption}
use Rattle.rules.specs.declared.TelnetOption.TheVariants.{Det, X3}
use Rattle.rules.specs.declared.Destination.TheVariants.{Down, Left, LineStart, NextCell}
use Rattle.rules.specs.Session.{
  View,
  printable,
  cells,
  x3_cells,
  none_held,
  no_maps,
  switched,
  with_x3,
  with_received,
  cursor_cell,
  with_frame,
}
use Rattle.rules.specs.Number.{det_option, x3_option}
use Rattle.rules.specs.Effect.{Effect, Part, put, bytes, changing, saying, quiet}
use Rattle.rules.specs.Cursor.{cursor_guarded, sent_to}

-- ---- items 1 and 2: held bytes

-- one byte more of a subnegotiation: six are held, and the count stops there
unfoldable pub holding : Held → ℕ → Held
holding h b =
    if ltb h.count 6
    then record { bytes = set h.bytes h.count b; count = h.count + 1 }
    else h

-- After what the reader told. Held bytes and their count are 0 again at a subnegotiation's option byte, once it has ended and
-- once it was thrown away.
unfoldable pub held_after : Held → Event → Held
held_after h Nothing = h
held_after h (Data b) = h
held_after h (Negotiation verb option) = h
held_after h (Begin option) = none_held
held_after h (Sub option b) = holding h b
held_after h (End option) = none_held
held_after h EndBare = none_held
held_after h Lost = none_held

-- was the last byte of data a CR: every such byte tells, and nothing else does
unfoldable pub cr_after : Bool → Event → Bool
cr_after cr Nothing = cr
cr_after cr (Data b) = eqb b 13
cr_after cr (Negotiation verb option) = cr
cr_after cr (Begin option) = cr
cr_after cr (Sub option b) = cr
cr_after cr (End option) = cr
cr_after cr EndBare = cr
cr_after cr Lost = cr

-- ---- item 3: negotiation. Document 02, request (i): option 30 is switched and answered as 20 is.

-- the options that the terminal has
unfoldable pub option_of : ℕ → Option TelnetOption
option_of n = if eqb n det_option then Some Det else if eqb n x3_option then Some X3 else None

unfoldable pub is_on : Frame → TelnetOption → Bool
is_on f Det = f.det
is_on f X3 = f.x3

-- may it be switched on: 30 only from 37 cells up
unfoldable pub accepts : Frame → TelnetOption → Bool
accepts f Det = true
accepts f X3 = leb x3_cells (cells f)

-- switched on or off: with DET off, protection is in effect again and nothing is agreed; 30 leaves both
unfoldable pub turned : Frame → TelnetOption → Bool → Frame
turned f Det true = switched f true f.suppressed
turned f Det false = with_received (switched f false false) no_maps
turned f X3 on = with_x3 f on

abbrev pub answer : Verb → ℕ → List Part
answer verb option = bytes (negotiation verb option) ∷ []

-- DO and DONT: a change is answered, and a DO that is not accepted, as that of an option that the terminal has not
unfoldable pub switched_on : View → Option TelnetOption → ℕ → Effect
switched_on v None option = saying v (answer Wont option)
switched_on v (Some o) option =
    if is_on v.frame o then quiet v
    else if accepts v.frame o then saying (with_frame v (turned v.frame o true)) (answer Will option)
    else saying v (answer Wont option)

unfoldable pub switched_off : View → Option TelnetOption → ℕ → Effect
switched_off v None option = quiet v
switched_off v (Some o) option =
    if is_on v.frame o then saying (with_frame v (turned v.frame o false)) (answer Wont option) else quiet v

unfoldable pub negotiated : View → Verb → ℕ → Effect
negotiated v Do option = switched_on v (option_of option) option
negotiated v Dont option = switched_off v (option_of option) option
negotiated v Will option = saying v (answer Dont option)
negotiated v Wont option = quiet v

-- ---- item 5: host data

-- a character from the host is lost on a guarded cell and written on any other, whatever the cell's class
unfoldable pub host_character : View → ℕ → Effect
host_character v c =
    if cursor_guarded v then quiet v
    else changing (sent_to v NextCell) (put (cursor_cell v) c ∷ [])

-- the same character so many times
unfoldable pub host_characters : ℕ → View → ℕ → Effect
host_characters zero v c = quiet v
host_characters (suc n) v c =
    let one = host_character v c in
    let rest = host_characters n one.view c in
    changing rest.view (one.changes ++ rest.changes)

-- printable bytes are written, CR, LF and BS move the cursor, all other bytes are passed over
unfoldable pub host_data : View → ℕ → Effect
host_data v b =
    if printable b then host_character v b
    else if eqb b 13 then quiet (sent_to v LineStart)
    else if eqb b 10 then quiet (sent_to v Down)
    else if eqb b 8 then quiet (sent_to v Left)
    else quiet v

-- host text: one byte after the other
unfoldable pub host_text : View → List ℕ → Effect
host_text v [] = quiet v
host_text v (b ∷ bs) =
    let one = host_data v b in
    let rest = host_text one.view bs in
    changing rest.view (one.changes ++ rest.changes)

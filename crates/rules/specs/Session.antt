-- Document 01, "Sizes and lent memory", and document 02, requests (i), (v) and (vi): the session, the screen buffers, and what a
-- decision may see of them.
use Rattle.std.specs.Prelude.{Bool, true, false, not, ◌&&◌, ◌||◌, List, [], ◌∷◌, ℕ, ◌*◌, leb, length}
use Rattle.telnet.specs.declared.Phase.TheVariants.{Rest}
use Rattle.words.specs.Words.{between}
use Rattle.pad.specs.declared.parameter.Values.{Values}
use Rattle.pad.specs.declared.line.EditLine.{EditLine}
use Rattle.pad.specs.declared.message.Message.{Message}
use Rattle.pad.specs.Parameters.{start_values, all_admissible}
use Rattle.pad.specs.Line.{line_of, line_ok}
use Rattle.pad.specs.Message.{idle_message}
use Rattle.screen.specs.declared.cell.Place.{Place}
use Rattle.screen.specs.Cells.{place, cell_of, on_screen}
use Rattle.rules.specs.declared.Held.{Held}
use Rattle.rules.specs.declared.Maps.{Maps}
use Rattle.rules.specs.declared.Edition.{Edition}
use Rattle.rules.specs.declared.Frame.{Frame}
use Rattle.rules.specs.declared.Reader.{Reader}
use Rattle.rules.specs.declared.Pad.{Pad}
use Rattle.rules.specs.declared.Session.{Session}

-- the widths and heights that a screen may have
abbrev pub sizes_ok : ℕ → ℕ → Bool
sizes_ok m n = between 1 132 m && between 1 64 n

-- the document's C, the number of cells
abbrev pub cells : Frame → ℕ
cells f = f.height * f.width

-- the reply room: the longest that one reply can be (request (v))
abbrev pub reply_room : Frame → ℕ
reply_room f = 9 * cells f

-- what a cell may hold
abbrev pub printable : ℕ → Bool
printable c = between 32 126 c

unfoldable pub all_printable : List ℕ → Bool
all_printable [] = true
all_printable (c ∷ cs) = printable c && all_printable cs

-- request (v): a mark is 0 or 1
unfoldable pub all_marks : List ℕ → Bool
all_marks [] = true
all_marks (m ∷ ms) = leb m 1 && all_marks ms

-- ---- the session

-- Request (i): with option 30 on, a full edit line must fit the reply room. 37 cells are the fewest for that.
abbrev pub x3_cells : ℕ
x3_cells = 37

-- what a PAD may hold: every value admissible, of the half-read message's copy too, and a line in its range
unfoldable pub pad_ok : Pad → Bool
pad_ok p = all_admissible p.values && (all_admissible p.message.copy && line_ok p.line)

-- What refusal 4 asks: the cursor on the screen, at most 6 held bytes, option 30 off below its cells, and the PAD in its ranges. A
-- later request that puts something with a stated range into the session adds it here.
unfoldable pub session_ok : Session → Bool
session_ok s =
    let f = s.frame in
    on_screen f.width f.height f.cursor
    && (leb s.reader.held.count 6 && ((not f.x3 || leb x3_cells (cells f)) && pad_ok s.pad))

-- held bytes 0
abbrev pub none_held : Held
none_held = record { bytes = 0 ∷ 0 ∷ 0 ∷ 0 ∷ 0 ∷ 0 ∷ []; count = 0 }

-- request (ii): no facility is asked for
abbrev pub no_maps : Maps
no_maps = record { edit = 0; erase = 0; transmit = 0; format0 = 0; format1 = 0 }

-- what an open starts with: cursor (0,0), both options off, protection in effect, nothing agreed; nothing half read; parameters at
-- their start, an empty line
abbrev pub fresh_frame : ℕ → ℕ → Edition → Frame
fresh_frame m n edition =
    record {
      width = m;
      height = n;
      edition = edition;
      cursor = place 0 0;
      det = false;
      x3 = false;
      suppressed = false;
      received = no_maps;
    }

abbrev pub fresh_reader : Reader
fresh_reader = record { phase = Rest; held = none_held; cr = false }

abbrev pub pad_with : Values → EditLine → Message → Pad
pad_with values line message = record { values = values; line = line; message = message }

abbrev pub fresh_pad : Pad
fresh_pad = pad_with start_values (line_of []) idle_message

abbrev pub session : Frame → Reader → Pad → Session
session f r p = record { frame = f; reader = r; pad = p }

abbrev pub fresh : ℕ → ℕ → Edition → Session
fresh m n edition = session (fresh_frame m n edition) fresh_reader fresh_pad

-- a frame of the same size and the same edition
abbrev pub sized : Frame → Place → Bool → Bool → Bool → Maps → Frame
sized f cursor det x3 suppressed received =
    record {
      width = f.width;
      height = f.height;
      edition = f.edition;
      cursor = cursor;
      det = det;
      x3 = x3;
      suppressed = suppressed;
      received = received;
    }

-- the frame with the cursor elsewhere
abbrev pub placed : Frame → Place → Frame
placed f cursor = sized f cursor f.det f.x3 f.suppressed f.received

-- DET on or off, protection suppressed or in effect
abbrev pub switched : Frame → Bool → Bool → Frame
switched f det suppressed = sized f f.cursor det f.x3 suppressed f.received

-- option 30 on or off
abbrev pub with_x3 : Frame → Bool → Frame
with_x3 f x3 = sized f f.cursor f.det x3 f.suppressed f.received

-- other maps received
abbrev pub with_received : Frame → Maps → Frame
with_received f received = sized f f.cursor f.det f.x3 f.suppressed received

-- Request (i): the edit line takes the keys while option 30 is on and DET is off.
abbrev pub line_takes_keys : Frame → Bool
line_takes_keys f = f.x3 && not f.det

-- ---- the screen buffers

pub record Screen : Type 0 where
  pub chars : List ℕ
  pub attrs : List ℕ
  pub marks : List ℕ

abbrev pub screen : List ℕ → List ℕ → List ℕ → Screen
screen chars attrs marks = record { chars = chars; attrs = attrs; marks = marks }

-- all that there is before a call and after it, but for the reply buffer
pub record State : Type 0 where
  pub session : Session
  pub screen : Screen

abbrev pub state : Session → Screen → State
state s b = record { session = s; screen = b }

-- ---- what a decision may see: the frame and the attribute bytes; no character and no mark, and nothing of the reader and the PAD

pub record View : Type 0 where
  pub frame : Frame
  pub attrs : List ℕ

abbrev pub view : Frame → List ℕ → View
view f attrs = record { frame = f; attrs = attrs }

abbrev pub view_of : State → View
view_of s = view s.session.frame s.screen.attrs

-- the cell of the cursor
abbrev pub cursor_cell : View → ℕ
cursor_cell v = cell_of v.frame.width v.frame.cursor

-- the cell after the screen's last: C, once refusal 2 has been passed
abbrev pub screen_end : View → ℕ
screen_end v = length v.attrs

-- the view with one thing changed
abbrev pub with_cursor : View → Place → View
with_cursor v cursor = view (placed v.frame cursor) v.attrs

abbrev pub with_modes : View → Bool → Bool → View
with_modes v det suppressed = view (switched v.frame det suppressed) v.attrs

abbrev pub with_frame : View → Frame → View
with_frame v f = view f v.attrs

abbrev pub with_attrs : View → List ℕ → View
with_attrs v attrs = view v.frame attrs

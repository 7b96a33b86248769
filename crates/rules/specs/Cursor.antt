-- Document 01, "Telnet bytes", "Cells, fields and guards", "Subcommands" and "Keys", and document 02, request (iii): where the cursor
-- goes.
use Rattle.std.specs.Prelude.{Bool, not, ℕ, ◌+◌, ◌-◌, ◌/◌, ◌%◌, min, ltb, if◌then◌else◌}
use Rattle.screen.specs.declared.cell.Place.{Place}
use Rattle.screen.specs.Cells.{place, place_of}
use Rattle.screen.specs.Attributes.{protected_at, guarded_at}
use Rattle.screen.specs.Fields.{opens_at, first_from, last_before}
use Rattle.screen.specs.Scans.{next_open}
use Rattle.rules.specs.declared.Frame.{Frame}
use Rattle.rules.specs.declared.Destination.{Destination}
use Rattle.rules.specs.declared.Destination.TheVariants.{
  Up,
  Down,
  Left,
  Right,
  Corner,
  LineStart,
  NextLine,
  NextCell,
  Home,
  ReverseTab,
  FirstField,
  NextField,
  NextOpen,
  PreviousOpen,
}
use Rattle.rules.specs.Session.{View, cursor_cell, with_cursor}

-- is the cell of the cursor guarded
abbrev pub cursor_guarded : View → Bool
cursor_guarded v = guarded_at v.frame.suppressed v.attrs (cursor_cell v)

-- 5: a place beyond the screen's edge is brought back to the edge
abbrev pub limited : Frame → Place → Place
limited f p = place (min p.x.0 (f.width - 1)) (min p.y.0 (f.height - 1))

-- 6: to line y, x stays; past the last line it goes on from the first
abbrev pub skipped_to_line : Frame → ℕ → Place
skipped_to_line f y = place f.cursor.x.0 (y % f.height)

-- 7: the lines that a skip to character position x goes down. Source documents 000 and 003 both divide by N, the number of lines, and not
-- by M (docs/DECISIONS.md, 77).
unfoldable pub lines_down : Frame → ℕ → ℕ
lines_down f x = x / f.height

-- 7: to character position x, y stays; past the line's end both go round
unfoldable pub skipped_to_char : Frame → ℕ → Place
skipped_to_char f x =
    if ltb x f.width then place x f.cursor.y.0 else place (x % f.width) ((f.cursor.y.0 + lines_down f x) % f.height)

-- one more, but below the limit
abbrev pub one_more : ℕ → ℕ → ℕ
one_more n limit = if ltb (n + 1) limit then n + 1 else n

-- a line down, none from the last
abbrev pub line_below : Frame → ℕ
line_below f = one_more f.cursor.y.0 f.height

-- one cell on, and from the last cell nowhere
unfoldable pub next_cell : Frame → Place
next_cell f =
    if ltb (f.cursor.x.0 + 1) f.width then place (f.cursor.x.0 + 1) f.cursor.y.0
    else if ltb (f.cursor.y.0 + 1) f.height then place 0 (f.cursor.y.0 + 1)
    else f.cursor

-- home is the first open cell of the form; the screen's corner where there is none or nothing is guarded
unfoldable pub home_cell : View → ℕ
home_cell v = if v.frame.suppressed then 0 else first_from (λ i. not (protected_at v.attrs i)) v.attrs 0 0

-- back to the nearest unprotected field that starts before the cursor's cell, or to the corner
unfoldable pub back_tab_cell : View → ℕ
back_tab_cell v = if v.frame.suppressed then 0 else last_before (opens_at v.attrs) v.attrs (cursor_cell v) 0

-- where the form's first unprotected field starts, suppressed or not; this cell, where it has none
unfoldable pub first_field_cell : View → ℕ → ℕ
first_field_cell v none = first_from (opens_at v.attrs) v.attrs 0 none

-- on to the next unprotected field, or round to the first, if there is any
unfoldable pub next_field_cell : View → ℕ
next_field_cell v = first_from (opens_at v.attrs) v.attrs (cursor_cell v + 1) (first_field_cell v (cursor_cell v))

-- back to the nearest cell that is not guarded, if there is one
unfoldable pub previous_open_cell : View → ℕ
previous_open_cell v = last_before (λ i. not (guarded_at v.frame.suppressed v.attrs i)) v.attrs (cursor_cell v) (cursor_cell v)

unfoldable pub destination : View → Destination → Place
-- 8, 9, 10, 11; LF as 9, BS as 10
destination v Up = place v.frame.cursor.x.0 (v.frame.cursor.y.0 - 1)
destination v Down = place v.frame.cursor.x.0 (line_below v.frame)
destination v Left = place (v.frame.cursor.x.0 - 1) v.frame.cursor.y.0
destination v Right = place (one_more v.frame.cursor.x.0 v.frame.width) v.frame.cursor.y.0
-- after 20 and 29
destination v Corner = place 0 0
-- CR
destination v LineStart = place 0 v.frame.cursor.y.0
-- after 22: the line below, or the cursor's own where there is none
destination v NextLine = place 0 (line_below v.frame)
-- after a character from the host
destination v NextCell = next_cell v.frame
-- 12, 19
destination v Home = place_of v.frame.width (home_cell v)
destination v ReverseTab = place_of v.frame.width (back_tab_cell v)
-- after 21 and 35: the corner, where there is no unprotected field
destination v FirstField = place_of v.frame.width (first_field_cell v 0)
-- key 9
destination v NextField = place_of v.frame.width (next_field_cell v)
-- after a typed character, and key 8
destination v NextOpen = place_of v.frame.width (next_open v.frame.suppressed v.attrs (cursor_cell v))
destination v PreviousOpen = place_of v.frame.width (previous_open_cell v)

-- the view with the cursor sent there
abbrev pub sent_to : View → Destination → View
sent_to v to = with_cursor v (destination v to)

-- Views as refusals 1, 2 and 4 ask for them: every place and every cell that the rules name is on the screen.
use Rattle.std.proofs.Common.{◌≡◌, ◌∙◌, Bool, true, List, ℕ, ◌+◌, ◌*◌, ◌≤◌, ◌<◌, mod-lt, arith, ltb-true, ltb, length}
use Rattle.screen.specs.declared.cell.Place.{Place}
use Rattle.screen.specs.Cells.{place_of}
use Rattle.screen.specs.Fields.{field_start}
use Rattle.words.proofs.Laws.{either}
use Rattle.screen.proofs.WordLaws.{first_below, last_below}
use Rattle.screen.proofs.CellLaws.{cell_lt, place_on_screen}
use Rattle.screen.proofs.FieldLaws.{start_le, next_open-lt}
use Rattle.rules.specs.declared.Destination.{Destination}
use Rattle.rules.specs.declared.Destination.TheVariants.{Up, Down, Left, Right, Corner, LineStart, NextLine, NextCell, Home, ReverseTab, FirstField, NextField, NextOpen, PreviousOpen}
use Rattle.rules.specs.declared.Maps.{Maps}
use Rattle.rules.specs.Session.{View, x3_cells, with_x3, with_received, cursor_cell, with_cursor, with_modes, with_frame, with_attrs}
use Rattle.rules.specs.Cursor.{limited, skipped_to_line, skipped_to_char, one_more, next_cell, home_cell, back_tab_cell, first_field_cell, next_field_cell, previous_open_cell, destination, sent_to}
-- the sentences of document 01 are checked first, so that a wrong rule is refused there
use Rattle.rules.proofs.Causes.{nothing_else}

-- a place on a screen m cells wide and n lines high
abbrev pub On : ℕ → ℕ → Place → Type 0
On m n p = (p.x.0 < m) × (p.y.0 < n)

-- sizes in their ranges, and what a session says of them
pub record Sized (m n w h : ℕ) : Type 0 where
  pub wide : m ≤ 132
  pub high : n ≤ 64
  pub width : w ≡ m
  pub height : h ≡ n

-- What refusals 1, 2 and 4 ask of a view, its screen being m cells wide and n lines high.
pub record SoundView (m n : ℕ) (v : View) : Type 0 where
  pub sizes : Sized m n v.frame.width v.frame.height
  pub cursor : On m n v.frame.cursor
  pub attrs : length v.attrs ≡ n * m
  pub x3 : v.frame.x3 ≡ true → x3_cells ≤ n * m

-- a cell of the screen
abbrev pub Within : View → ℕ → Type 0
Within v cell = cell < length v.attrs

one_more_lem : (a w b : ℕ) → w ≡ b → a < b → one_more a w < b
one_more_lem a w b e h = either (λ c. c < b) (ltb (a + 1) w) (λ t. omega (arith, ltb-true)) (λ t. h)

module _ {m n : ℕ} {v : View} (k : SoundView m n v) where
  -- ---- with one thing changed

  -- the cursor elsewhere on the screen
  pub at_place : (p : Place) → On m n p → SoundView m n (with_cursor v p)
  at_place p h = record { sizes = k.sizes; cursor = h; attrs = k.attrs; x3 = k.x3 }

  -- other modes
  pub switched : (det suppressed : Bool) → SoundView m n (with_modes v det suppressed)
  switched det suppressed = record { sizes = k.sizes; cursor = k.cursor; attrs = k.attrs; x3 = k.x3 }

  -- other maps received
  pub asked : (m₁ : Maps) → SoundView m n (with_frame v (with_received v.frame m₁))
  asked m₁ = record { sizes = k.sizes; cursor = k.cursor; attrs = k.attrs; x3 = k.x3 }

  -- option 30 on, from its cells up, or off
  pub turned_x3 : (on : Bool) → (on ≡ true → x3_cells ≤ n * m) → SoundView m n (with_frame v (with_x3 v.frame on))
  turned_x3 on h = record { sizes = k.sizes; cursor = k.cursor; attrs = k.attrs; x3 = h }

  -- other attribute bytes, as many as before
  pub attributed : (attrs : List ℕ) → length attrs ≡ length v.attrs → SoundView m n (with_attrs v attrs)
  attributed attrs e = record { sizes = k.sizes; cursor = k.cursor; attrs = e ∙ k.attrs; x3 = k.x3 }

  -- ---- cells

  -- the place of a cell
  pub place_on : (cell : ℕ) → Within v cell → On m n (place_of v.frame.width cell)
  place_on cell h = rw k.sizes.width (place_on_screen m n cell (rw k.attrs at h))

  -- the cursor's cell
  pub cursor_lt : Within v (cursor_cell v)
  cursor_lt = rw (k.sizes.width, k.attrs) (cell_lt k.cursor.0 k.cursor.1)

  -- there is a cell
  pub some : Within v 0
  some = omega (arith, cursor_lt)

  -- the first cell of the cursor's field
  pub field_lt : Within v (field_start v.attrs (cursor_cell v))
  field_lt = omega (arith, cursor_lt, start_le v.attrs (cursor_cell v))

  -- ---- where the cursor goes

  -- MOVE CURSOR's limits
  pub limited_on : (p : Place) → On m n (limited v.frame p)
  limited_on p = omega arith

  -- a skip goes round
  pub skipped_line_on : (y : ℕ) → On m n (skipped_to_line v.frame y)
  skipped_line_on y = (k.cursor.0, rw k.sizes.height (mod-lt y (omega arith)))

  pub skipped_char_on : (x : ℕ) → On m n (skipped_to_char v.frame x)
  unfolding skipped_to_char
  skipped_char_on x =
      either (On m n) (ltb x v.frame.width) (λ e. (omega (arith, ltb-true), k.cursor.1))
      (λ e. (rw k.sizes.width (mod-lt x (omega arith)), rw k.sizes.height (mod-lt _ (omega arith))))

  next_on : On m n (next_cell v.frame)
  unfolding next_cell
  next_on =
      either (On m n) (ltb (v.frame.cursor.x.0 + 1) v.frame.width) (λ e. omega (arith, ltb-true))
      (λ e. either (On m n) (ltb (v.frame.cursor.y.0 + 1) v.frame.height) (λ q. omega (arith, ltb-true))
      (λ q. k.cursor))

  first_field_lt : (none : ℕ) → Within v none → Within v (first_field_cell v none)
  unfolding first_field_cell
  first_field_lt none h = first_below _ none 0 _ _ (omega arith) h

  -- every destination is on the screen
  pub destination_on : (to : Destination) → On m n (destination v to)
  unfolding destination home_cell back_tab_cell next_field_cell previous_open_cell
  destination_on Up = omega arith
  destination_on Down = (k.cursor.0, one_more_lem _ _ n k.sizes.height k.cursor.1)
  destination_on Left = omega arith
  destination_on Right = (one_more_lem _ _ m k.sizes.width k.cursor.0, k.cursor.1)
  destination_on Corner = omega arith
  destination_on LineStart = omega arith
  destination_on NextLine = (omega arith, one_more_lem _ _ n k.sizes.height k.cursor.1)
  destination_on NextCell = next_on
  destination_on Home =
      place_on _ (either (Within v) v.frame.suppressed (λ e. some) (λ e. first_below _ 0 0 _ _ (omega arith) some))
  destination_on ReverseTab =
      place_on _ (either (Within v) v.frame.suppressed (λ e. some) (λ e. last_below _ 0 _ _ (omega arith) some))
  destination_on FirstField = place_on _ (first_field_lt 0 some)
  destination_on NextField =
      place_on _ (first_below _ _ (cursor_cell v + 1) _ _ (omega (arith, cursor_lt)) (first_field_lt _ cursor_lt))
  destination_on NextOpen = place_on _ (next_open-lt _ _ _ cursor_lt)
  destination_on PreviousOpen = place_on _ (last_below _ (cursor_cell v) _ _ (omega arith) cursor_lt)

  -- and the view with the cursor there is sound
  pub goes : (to : Destination) → SoundView m n (sent_to v to)
  goes to = at_place _ (destination_on to)

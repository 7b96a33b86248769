-- Document 01, "Sizes and lent memory": places and cells. A screen is `width` cells wide and `height` lines high.
use Rattle.std.specs.Prelude.{Bool, ◌&&◌, ℕ, ◌+◌, ◌*◌, ◌/◌, ◌%◌, ltb, if◌then◌else◌}
use Rattle.screen.specs.declared.cell.Line.{Line}
use Rattle.screen.specs.declared.cell.Place.{Place}

-- character position x, line position y
abbrev pub place : ℕ → ℕ → Place
place x y = record { x = record { 0 = x }; y = record { 0 = y } }

-- a place's cell: the lines stand one after the other
abbrev pub cell_of : ℕ → Place → ℕ
cell_of width p = p.y.0 * width + p.x.0

-- the place of a cell
abbrev pub place_of : ℕ → ℕ → Place
place_of width cell = place (cell % width) (cell / width)

abbrev pub on_screen : ℕ → ℕ → Place → Bool
on_screen width height p = ltb p.x.0 width && ltb p.y.0 height

-- the first cell of a line, and the cell after its last
abbrev pub line_start : ℕ → Line → ℕ
line_start width y = y.0 * width

abbrev pub line_end : ℕ → Line → ℕ
line_end width y = y.0 * width + width

-- What the code answers for every number: the place, or (0,0) where no line that a byte can number has the cell.
unfoldable pub place_or_origin : ℕ → ℕ → Place
place_or_origin width cell = if ltb cell (256 * width) then place_of width cell else place 0 0

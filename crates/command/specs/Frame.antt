-- The lent buffers, and what a decision is made from.
use Rattle.std.specs.Prelude.{Bool, ◌&&◌, List, ℕ, eqb, length}
use Rattle.screen.specs.Cells.{on_screen}
use Rattle.rules.specs.declared.Frame.{Frame}
use Rattle.rules.specs.Session.{Screen, View, cells, screen, view}

-- the lent screen buffers, as a call finds them or leaves them
abbrev pub lent : List ℕ → List ℕ → List ℕ → Screen
lent chars attrs marks = screen chars attrs marks

-- a frame with the attribute bytes that are lent
abbrev pub seen : Frame → List ℕ → View
seen f attrs = view f attrs

-- is the cursor on the screen, with an attribute byte for each cell
abbrev pub fitting : View → Bool
fitting v = let f = v.frame in on_screen f.width f.height f.cursor && eqb (length v.attrs) (cells f)

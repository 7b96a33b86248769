-- What becomes of a canvas.
use Rattle.std.specs.Prelude.{◌≡◌}
use Rattle.rules.specs.Session.{View, placed, view}
use Rattle.rules.specs.Effect.{Effect}
use Rattle.text.specs.declared.canvas.Canvas.{Canvas}
use Rattle.text.specs.Text.{Changes}

-- what the rules go by on a canvas
abbrev pub shown : Canvas → View
shown c = view c.frame c.attrs.now

-- the characters are in the same buffer as before, and the attribute bytes stay
pub record Kept (c c' : Canvas) : Type 0 where
  pub buffer : c'.chars.ghost_name ≡ c.chars.ghost_name
  pub attrs : c'.attrs.now ≡ c.attrs.now

-- an effect on it, which changes nothing of the frame but its cursor
pub record Draws (e : Effect) (c c' : Canvas) : Type 0 where
  pub kept : Kept c c'
  pub frame : c'.frame ≡ placed c.frame c'.frame.cursor
  pub changes : Changes e c.chars.now c.attrs.now c'.frame c'.chars.now

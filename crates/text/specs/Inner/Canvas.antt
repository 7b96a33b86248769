-- What is done so far on a canvas.
use Rattle.std.specs.Prelude.{Bool, List, ℕ}
use Rattle.screen.specs.declared.cell.Place.{Place}
use Rattle.rules.specs.Session.{placed}
use Rattle.text.specs.declared.canvas.Canvas.{Canvas}
use Rattle.text.specs.Canvas.{Kept}
use Rattle.text.specs.Inner.Text.{Texted, TextStep}

-- the canvas with the cursor at this place
abbrev pub at_place : Canvas → Place → Canvas
at_place c p = record c { frame = placed c.frame p }

-- what the first `at` bytes do
pub record Drawn (joins cr : Bool) (bytes : List ℕ) (c₀ : Canvas) (at : ℕ) (c : Canvas) : Type 0 where
  pub kept : Kept c₀ c
  pub done : Texted c₀.attrs.now joins cr bytes c₀.frame c₀.chars.now at c.frame c.chars.now

-- where the first `from` bytes lead to c, the first `end` lead to c'
pub record DrawStep (bytes : List ℕ) (from : ℕ) (c : Canvas) (end : ℕ) (c' : Canvas) : Type 0 where
  pub kept : Kept c c'
  pub step : TextStep c.attrs.now bytes from c.frame c.chars.now end c'.frame c'.chars.now

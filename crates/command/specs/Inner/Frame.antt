-- What private functions may rely on once the refusals 1, 2 and 4 are passed.
use Rattle.std.specs.Prelude.{◌≡◌, ◌<◌, length}
use Rattle.rules.specs.declared.Frame.{Frame}
use Rattle.rules.specs.Session.{View, cells}

-- the cursor on the screen
pub record OnScreen (f : Frame) : Type 0 where
  pub x : f.cursor.x.0 < f.width
  pub y : f.cursor.y.0 < f.height

-- and an attribute byte for each cell
pub record Fits (v : View) : Type 0 where
  pub on : OnScreen v.frame
  pub long : length v.attrs ≡ cells v.frame

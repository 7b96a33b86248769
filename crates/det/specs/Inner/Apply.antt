-- What it is to apply an effect to the lent buffers.
use Rattle.std.specs.Prelude.{◌≡◌, List, ℕ, length}
use Rattle.rules.specs.declared.Frame.{Frame}
use Rattle.rules.specs.Session.{Screen, view}
use Rattle.rules.specs.Effect.{Effect, marks_after, spelled_all}
use Rattle.command.specs.Inner.Frame.{Fits}
use Rattle.text.specs.Text.{Changes}
use Rattle.words.specs.Stored.{Room, Emitted}
use Rattle.reply.specs.declared.Reply.{Reply}

-- from a reply, these bytes gave this one: in the buffer that was lent, what it holds now, and the place after what was written
pub record Emits (r : Reply) (bytes : List ℕ) (r' : Reply) : Type 0 where
  pub same_buffer : r'.buffer.ghost_name ≡ r.buffer.ghost_name
  pub emitted : Emitted r.buffer.now r.at bytes r'.buffer.now r'.at

-- the frame, the characters, the attribute bytes and the marks afterwards, and the reply, written from the screen as it was
pub record Applies (e : Effect) (b : Screen) (r : Reply) (f : Frame) (b' : Screen) (r' : Reply) : Type 0 where
  pub changes : Changes e b.chars b.attrs f b'.chars
  pub attributes : b'.attrs ≡ e.view.attrs
  pub marks : b'.marks ≡ marks_after b.marks e.marking
  pub replies : Emits r (spelled_all b e.reply) r'

-- the frame is the screen's, and the effect's reply fits from `at` on
pub record Answerable (e : Effect) (f : Frame) (b : Screen) (reply : List ℕ) (at : ℕ) : Type 0 where
  pub fits : Fits (view f b.attrs)
  pub long : length b.chars ≡ length b.attrs
  pub room : Room reply at (spelled_all b e.reply)

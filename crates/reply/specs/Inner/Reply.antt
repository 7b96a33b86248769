-- What is said, and the room for it.
use Rattle.std.specs.Prelude.{◌≡◌, List, ℕ, length}
use Rattle.words.specs.Stored.{Room}
use Rattle.rules.specs.declared.Edition.{Edition}
use Rattle.rules.specs.Session.{Screen}
use Rattle.rules.specs.Effect.{spelled_all}
use Rattle.decide.specs.declared.decision.Say.{Say}
use Rattle.decide.specs.Decision.{parts_of, Sendable}

-- What is said can be written: a text lies on the screen, there are as many characters as attribute bytes, and the bytes fit into the
-- reply from `at` on.
pub record Sayable (e : Edition) (say : Say) (b : Screen) (reply : List ℕ) (at : ℕ) : Type 0 where
  pub sendable : Sendable b.attrs say
  pub long : length b.chars ≡ length b.attrs
  pub room : Room reply at (spelled_all b (parts_of e b.attrs say))

-- Demand 3, noninterference: two sessions that differ in protected characters alone cannot be told apart.
use Rattle.std.specs.Prelude.{◌≡◌, Bool, true, false, not, ◌&&◌, List, [], ◌∷◌, ℕ, ◌<◌, length, get_or}
use Rattle.screen.specs.Attributes.{protected_at}
use Rattle.rules.specs.declared.Session.{Session}
use Rattle.rules.specs.Session.{State, all_printable, screen, state}
use Rattle.rules.specs.Effect.{Executed}
use Rattle.rules.specs.Command.{reaches_past}
use Rattle.rules.specs.Call.{Call, Answered, answers_of, state_after, executed_of}

-- none of these commands is one of the seven
unfoldable pub none_reaches : List Executed → Bool
none_reaches [] = true
none_reaches (e ∷ es) = not (reaches_past e.row e.held) && none_reaches es

-- Equally long, and alike in the unprotected characters. Every character byte is a cell, protected where it has no attribute byte.
pub record Alike (attrs c d : List ℕ) : Type 0 where
  pub long : length c ≡ length d
  pub unprotected : (i : ℕ) → i < length c → protected_at attrs i ≡ false → get_or c i 0 ≡ get_or d i 0

-- equally long, and every protected character as it was
pub record Kept (attrs before after : List ℕ) : Type 0 where
  pub long : length after ≡ length before
  pub protected : (i : ℕ) → i < length before → protected_at attrs i ≡ true → get_or after i 0 ≡ get_or before i 0

-- Two runs, begun with the attribute bytes `attrs` and the characters c and d, gave the answers a and b and ended in s and t: the
-- same answers, counts, refusals and reply bytes; they end alike, with the same marks; and every protected cell is as at its start, its
-- character and its attribute byte.
pub record Indistinct (attrs c d : List ℕ) (a b : List Answered) (s t : State) : Type 0 where
  pub answers : a ≡ b
  pub sessions : s.session ≡ t.session
  pub attributes_first : s.screen.attrs ≡ attrs
  pub attributes_second : t.screen.attrs ≡ attrs
  pub marks : s.screen.marks ≡ t.screen.marks
  pub alike : Alike attrs s.screen.chars t.screen.chars
  pub kept_first : Kept attrs c s.screen.chars
  pub kept_second : Kept attrs d t.screen.chars

-- the same calls from the same session, attribute bytes and marks, with the characters c and with d
abbrev pub Untold : Session → List ℕ → List ℕ → List ℕ → List ℕ → List Call → Type 0
Untold s attrs marks c d calls =
    let first = state s (screen c attrs marks) in
    let second = state s (screen d attrs marks) in
    Indistinct attrs c d (answers_of first calls) (answers_of second calls) (state_after first calls) (state_after second calls)

-- Noninterference. Two sessions, protection in effect, that differ only in protected characters, are given the same list of calls,
-- in which none of the seven commands is executed. Then they give the same answers, counts, refusals and reply bytes, end alike, and
-- keep every protected cell. The list may be any, the empty one too. The premise on the seven speaks of the first run only: the
-- stronger sentence.
abbrev pub Noninterference : Type 0
Noninterference =
    (s : Session) (attrs marks c d : List ℕ) (calls : List Call)
    → s.frame.suppressed ≡ false
    → all_printable c ≡ true
    → all_printable d ≡ true
    → Alike attrs c d
    → none_reaches (executed_of (state s (screen c attrs marks)) calls) ≡ true
    → Untold s attrs marks c d calls

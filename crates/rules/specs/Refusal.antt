-- Document 01, "Refusal numbers", and those that document 02 adds.
use Rattle.std.specs.Prelude.{Bool, true, false, ◌&&◌, List, [], ◌∷◌, ℕ, leb, eqb, length, if◌then◌else◌, Result, Ok, Err, ⊤}
use Rattle.rules.specs.declared.Frame.{Frame}
use Rattle.rules.specs.declared.Session.{Session}
use Rattle.rules.specs.declared.Refusal.{Refusal}
use Rattle.rules.specs.declared.Refusal.TheVariants.{
  Size,
  BufferLength,
  BadCharacter,
  BadSession,
  ReplyRoom,
  Guarded,
  WrongClass,
  DetOff,
  NoMeaning,
  LineFull,
  BadMark,
  UnknownEdition,
}
use Rattle.rules.specs.Edition.{is_edition}
use Rattle.rules.specs.Session.{Screen, sizes_ok, cells, reply_room, all_printable, all_marks, session_ok}

-- the table's numbers
abbrev pub number_of : Refusal → ℕ
number_of Size = 1
number_of BufferLength = 2
number_of BadCharacter = 3
number_of BadSession = 4
number_of ReplyRoom = 5
number_of Guarded = 6
number_of WrongClass = 7
number_of DetOff = 8
number_of NoMeaning = 9
number_of LineFull = 10
number_of BadMark = 11
number_of UnknownEdition = 12

-- a call is taken, or refused
abbrev pub Verdict : Type 0
Verdict = Result ⊤ Refusal

abbrev pub is_taken : Verdict → Bool
is_taken (Ok taken) = true
is_taken (Err r) = false

-- the number that a call returns: 0 where it is taken
abbrev pub told_number : Verdict → ℕ
told_number (Ok taken) = 0
told_number (Err r) = number_of r

-- a test that a call must pass, and its refusal where it does not
pub record Test : Type 0 where
  pub passes : Bool
  pub otherwise : Refusal

abbrev pub test : Bool → Refusal → Test
test passes otherwise = record { passes = passes; otherwise = otherwise }

-- the first test that fails decides
unfoldable pub verdict : List Test → Verdict
verdict [] = Ok tt
verdict (t ∷ ts) = if t.passes then verdict ts else Err t.otherwise

-- 1
abbrev pub size_test : Frame → Test
size_test f = test (sizes_ok f.width f.height) Size

-- 2
abbrev pub buffer_test : Frame → Screen → Test
buffer_test f b =
    test (eqb (length b.chars) (cells f) && (eqb (length b.attrs) (cells f) && eqb (length b.marks) (cells f))) BufferLength

-- 1, 12 and 2, all that open has: the edition named must be one
unfoldable pub open_tests : Frame → ℕ → Screen → List Test
open_tests f named b = size_test f ∷ test (is_edition named) UnknownEdition ∷ buffer_test f b ∷ []

-- 1 and 2, of host bytes and of a key
unfoldable pub size_tests : Frame → Screen → List Test
size_tests f b = size_test f ∷ buffer_test f b ∷ []

-- 3, 4, 11 and 5, after those
unfoldable pub state_tests : Session → Screen → List ℕ → List Test
state_tests s b reply =
    test (all_printable b.chars) BadCharacter
    ∷ test (session_ok s) BadSession
    ∷ test (all_marks b.marks) BadMark
    ∷ test (leb (reply_room s.frame) (length reply)) ReplyRoom
    ∷ []

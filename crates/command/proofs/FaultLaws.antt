-- Laws of the ERRORs that values draw.
use Rattle.std.proofs.Common.{◌≡◌, refl, List, [], ◌∷◌, ℕ, Ok}
use types.Run.{OneOf, miss}
use denote.Enum.Declared.{tag_of}
use Rattle.rules.specs.contracts.Command.{the_type}
use Rattle.rules.specs.declared.Held.{Held}
use Rattle.rules.specs.declared.Command.{Command}
use Rattle.rules.specs.declared.Command.TheVariants.{
  Facilities,
  MoveCursor,
  SkipToLine,
  SkipToChar,
  Move,
  LineShift,
  CharShift,
  ReadCursor,
  Transmit,
  TransmitModified,
  Erase,
  FormatData,
  Repeat,
  SuppressProtection,
  Error,
}
use Rattle.rules.specs.Session.{View}
use Rattle.rules.specs.Command.{value_fault}

-- all commands but MOVE CURSOR, FORMAT DATA, REPEAT and 38, by their place in the enum
abbrev any : List ℕ
any = 0 ∷ 2 ∷ 3 ∷ 4 ∷ 5 ∷ 6 ∷ 7 ∷ 8 ∷ 9 ∷ 10 ∷ 14 ∷ []

-- they take any values
pub any_values : (v : View) (h : Held) (c : Command) → OneOf any (tag_of the_type c) → Ok tt ≡ value_fault v c h
unfolding value_fault
any_values v h MoveCursor o = absurd (miss any 1 tt o)
any_values v h FormatData o = absurd (miss any 11 tt o)
any_values v h Repeat o = absurd (miss any 12 tt o)
any_values v h SuppressProtection o = absurd (miss any 13 tt o)
any_values v h (Facilities f) o = refl
any_values v h SkipToLine o = refl
any_values v h SkipToChar o = refl
any_values v h (Move to) o = refl
any_values v h (LineShift s) o = refl
any_values v h (CharShift s) o = refl
any_values v h ReadCursor o = refl
any_values v h (Transmit area) o = refl
any_values v h TransmitModified o = refl
any_values v h (Erase area) o = refl
any_values v h Error o = refl

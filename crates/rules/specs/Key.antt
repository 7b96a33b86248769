-- Document 01, "Keys", and document 02, requests (v) and (vi).
use Rattle.std.specs.Prelude.{Bool, true, false, not, ◌||◌, List, [], ◌∷◌, ℕ, ◌+◌, ◌-◌, eqb, if◌then◌else◌}
use Rattle.edit.specs.declared.range.Shift.TheVariants.{Deletion}
use Rattle.words.specs.Words.{between}
use Rattle.screen.specs.Attributes.{attribute_at}
use Rattle.screen.specs.Classes.{takes}
use Rattle.rules.specs.declared.Destination.TheVariants.{NextField, NextOpen, PreviousOpen}
use Rattle.rules.specs.declared.Area.TheVariants.{Unprotected}
use Rattle.rules.specs.declared.Refusal.TheVariants.{Guarded, WrongClass, DetOff, NoMeaning}
use Rattle.rules.specs.declared.Key.{Key}
use Rattle.rules.specs.declared.Key.TheVariants.{Typed, Back, Tab, Send, Delete, Function, Meaningless}
use Rattle.rules.specs.Session.{View, printable, cursor_cell}
use Rattle.rules.specs.Number.{fn}
use Rattle.rules.specs.Edition.{code_for}
use Rattle.rules.specs.Refusal.{Test, test}
use Rattle.rules.specs.Effect.{Effect, put, message, saying, quiet, writing}
use Rattle.rules.specs.Cursor.{cursor_guarded, sent_to}
use Rattle.rules.specs.Subcommand.{transmitted, shifting}

-- what a key means; 128 to 143 are the function keys, numbered from 1
unfoldable pub key_of : ℕ → Key
key_of k =
    if printable k then Typed k
    else if eqb k 8 then Back
    else if eqb k 9 then Tab
    else if eqb k 13 then Send
    else if eqb k 127 then Delete
    else if between 128 143 k then Function (k - 127)
    else Meaningless

-- ---- refusals 9, 8, 6 and 7, in this order

-- what a key asks for: a meaning, DET on, a cell that is not guarded, a cell whose attribute byte takes it
pub record Needs : Type 0 where
  pub meaning : Bool
  pub det : Bool
  pub unguarded : Bool
  pub class : ℕ → Bool

-- a cell of any class
abbrev pub any : ℕ → Bool
any attr = true

-- a key that asks for nothing, or for DET alone
abbrev pub anywhere : Bool → Needs
anywhere det = record { meaning = true; det = det; unguarded = false; class = any }

unfoldable pub needs_of : Key → Needs
needs_of (Typed c) = record { meaning = true; det = false; unguarded = true; class = λ attr. takes attr c }
needs_of Back = anywhere false
needs_of Tab = anywhere false
needs_of Send = anywhere true
needs_of Delete = record { meaning = true; det = false; unguarded = true; class = any }
needs_of (Function n) = anywhere true
needs_of Meaningless = record { meaning = false; det = false; unguarded = false; class = any }

-- what is not asked for is not missing
abbrev pub given : Bool → Bool → Bool
given asked there = not asked || there

-- class is not tested while suppressed
abbrev pub class_allows : View → (ℕ → Bool) → Bool
class_allows v class = v.frame.suppressed || class (attribute_at v.attrs (cursor_cell v))

unfoldable pub key_tests : View → Key → List Test
key_tests v k =
    let needs = needs_of k in
    test needs.meaning NoMeaning
    ∷ test (given needs.det v.frame.det) DetOff
    ∷ test (given needs.unguarded (not (cursor_guarded v))) Guarded
    ∷ test (class_allows v needs.class) WrongClass
    ∷ []

-- ---- what each does

unfoldable pub pressed : View → Key → Effect
-- a character that is typed marks its cell and moves the cursor on to an open one
pressed v (Typed c) = writing (sent_to v NextOpen) (put (cursor_cell v) c) (cursor_cell v) (cursor_cell v + 1)
-- 8: back to an open cell
pressed v Back = quiet (sent_to v PreviousOpen)
-- 9: on to an unprotected field
pressed v Tab = quiet (sent_to v NextField)
-- 13: as subcommand 21
pressed v Send = transmitted v Unprotected
-- 127: as subcommand 16
pressed v Delete = shifting v Deletion
-- 128 to 143: FN (40) with its number
pressed v (Function n) = saying v (message (code_for v.frame.edition fn ∷ n ∷ []) ∷ [])
pressed v Meaningless = quiet v

-- What happens to a character: written, dropped, refused by guard or refused by class.
use Rattle.std.specs.Prelude.{◌≡◌, ℕ, if◌then◌else◌}
use Rattle.screen.specs.Classes.{takes}
use Rattle.screen.specs.declared.cell.Place.{Place}
use Rattle.rules.specs.declared.Key.{Key}
use Rattle.rules.specs.declared.Destination.TheVariants.{NextCell, NextOpen}
use Rattle.rules.specs.Session.{View, printable}
use Rattle.rules.specs.Effect.{Effect, quiet}
use Rattle.rules.specs.Cursor.{cursor_guarded, destination}
use Rattle.rules.specs.Telnet.{host_data}
use Rattle.rules.specs.Refusal.{is_taken, verdict}
use Rattle.rules.specs.Key.{class_allows, key_tests, pressed}
use Rattle.decide.specs.declared.text.Writer.{Writer}
use Rattle.decide.specs.declared.text.Writer.TheVariants.{Host, Operator}
use Rattle.decide.specs.declared.text.Fate.{Fate}
use Rattle.decide.specs.declared.text.Fate.TheVariants.{Written, Dropped, RefusedByGuard, RefusedByClass}
use Rattle.decide.specs.declared.text.Writing.{Writing}

-- the host's character is dropped on a guarded cell; the operator's is refused there, and where it is not of the cell's class
unfoldable pub fate_of : Writer → View → ℕ → Fate
fate_of Host v c = if cursor_guarded v then Dropped else Written
fate_of Operator v c =
    if cursor_guarded v then RefusedByGuard else if class_allows v (λ attr. takes attr c) then Written else RefusedByClass

-- where the cursor goes after a character
abbrev pub place_after : Writer → View → Place
place_after Host v = destination v NextCell
place_after Operator v = destination v NextOpen

-- the cursor after a character of this fate
unfoldable pub after_fate : Fate → Place → Place → Place
after_fate Written here next = next
after_fate Dropped here next = here
after_fate RefusedByGuard here next = here
after_fate RefusedByClass here next = here

pub record Writes (v : View) (writer : Writer) (c : ℕ) (w : Writing) : Type 0 where
  pub fate : w.fate ≡ fate_of writer v c
  pub cursor : w.cursor ≡ after_fate w.fate v.frame.cursor (place_after writer v)

-- host data that is no character; a character is left to the others
unfoldable pub control_of : View → ℕ → Effect
control_of v b = if printable b then quiet v else host_data v b

-- a key that is not refused
abbrev pub pressed_if_taken : View → Key → Effect
pressed_if_taken v key = if is_taken (verdict (key_tests v key)) then pressed v key else quiet v

-- Laws of writing a character: by its fate.
use Rattle.std.proofs.Common.{◌≡◌, refl, ◌∙◌, Bool, true, false, [], ◌∷◌, ℕ, lt-ltb, eq-eqb, Ok, if◌then◌else◌}
use Rattle.screen.specs.declared.cell.Place.{Place}
use Rattle.screen.specs.Scans.{next_open_place}
use Rattle.screen.specs.Classes.{takes}
use Rattle.words.proofs.Laws.{true_or_false}
use Rattle.rules.specs.declared.Destination.TheVariants.{NextOpen}
use Rattle.rules.specs.declared.Key.{Key}
use Rattle.rules.specs.declared.Key.TheVariants.{Typed}
use Rattle.rules.specs.Session.{View, printable, cursor_cell, with_cursor}
use Rattle.rules.specs.Effect.{Effect, put, changing, quiet}
use Rattle.rules.specs.Cursor.{cursor_guarded, destination}
use Rattle.rules.specs.Telnet.{host_character, host_data}
use Rattle.rules.specs.Refusal.{verdict}
use Rattle.rules.specs.Key.{pressed, key_tests, needs_of, class_allows}
use Rattle.decide.specs.declared.text.Writer.TheVariants.{Host, Operator}
use Rattle.decide.specs.declared.text.Fate.{Fate}
use Rattle.decide.specs.declared.text.Fate.TheVariants.{Written, Dropped, RefusedByGuard, RefusedByClass}
use Rattle.decide.specs.declared.text.Writing.{Writing}
use Rattle.decide.specs.declared.decision.Decision.{Decision}
use Rattle.decide.specs.Decision.{Decides}
use Rattle.decide.specs.Inner.Writing.{if_written, fate_refusal}
use Rattle.decide.proofs.DecideLaws.{recast}
use Rattle.command.specs.Inner.Frame.{Fits}
use Rattle.decide.specs.Writing.{fate_of, place_after, after_fate, control_of, pressed_if_taken, Writes}

-- a host character goes by its fate
pub by_fate : (v : View) (c : ℕ)
    → host_character v c ≡ if_written (fate_of Host v c) (changing (with_cursor v (place_after Host v)) (put (cursor_cell v) c ∷ [])) (quiet v)
unfolding host_character fate_of if_written
by_fate v c = true_or_false (cursor_guarded v) (λ g. rw g) (λ g. rw g)

-- and so does the refusal of a typed character
pub refused_by_fate : (v : View) (c : ℕ) → fate_refusal (fate_of Operator v c) ≡ verdict (key_tests v (Typed c))
unfolding fate_of verdict key_tests needs_of
refused_by_fate v c =
    true_or_false (cursor_guarded v) (λ g. rw g) (λ g. true_or_false (class_allows v (λ attr. takes attr c)) (λ a. rw (g, a)) (λ a. rw (g, a)))

-- a typed character that is not refused is written
only_written : (guarded allowed : Bool)
    → let fate = if guarded then RefusedByGuard else if allowed then Written else RefusedByClass in fate_refusal fate ≡ Ok tt → fate ≡ Written
only_written true allowed e = cc
only_written false true e = refl
only_written false false e = cc

-- and where the rule for its key says
pub typed : {v : View} {c : ℕ} {w : Writing} → Writes v Operator c w → verdict (key_tests v (Typed c)) ≡ Ok tt
    → w.cursor ≡ place_after Operator v
unfolding after_fate fate_of
typed {v} {c} one e =
    let written : fate_of Operator v c ≡ Written =
    only_written (cursor_guarded v) (class_allows v (λ attr. takes attr c)) (refused_by_fate v c ∙ e) in
    one.cursor ∙ rw (one.fate, written)

-- what the other arm of a match on Written knows
pub not_written : (f : Fate) → (f ≡ Written → ⊥)
    → (done none : Effect) → if_written f done none ≡ none
unfolding if_written
not_written Written h done none = absurd (h refl)
not_written Dropped h done none = refl
not_written RefusedByGuard h done none = refl
not_written RefusedByClass h done none = refl

-- where the code's scan for the next open place goes, with the cursor on the screen
pub next_open_is : {v : View} {p : Place} → Fits v →
    let f = v.frame in p ≡ next_open_place f.suppressed v.attrs f.width f.height f.cursor → p ≡ destination v NextOpen
unfolding next_open_place destination
next_open_is h e = e ∙ rw (lt-ltb _ _ h.on.x, lt-ltb _ _ h.on.y, eq-eqb _ _ h.long)

-- host data that is no character
pub control_is : (v : View) (b : ℕ) → printable b ≡ false → host_data v b ≡ control_of v b
unfolding control_of
control_is v b e = rw e

-- what a caller who knows that the key is not refused has
pub pressed_was : {v : View} (k : Key) {d : Decision} → Ok tt ≡ verdict (key_tests v k) → Decides v d (λ v. pressed_if_taken v k)
    → Decides v d (λ v. pressed v k)
pressed_was k e by = recast by (rw (← e))

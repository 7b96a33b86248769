-- Laws of the subcommands: what lies on the screen, and which decisions the rules ask for.
use Rattle.std.proofs.Common.{◌≡◌, refl, ap, ◌∙◌, [], ℕ, zero, suc, ◌≤◌, ◌<◌, arith, length, Option, Some, None, Result, Err}
use Rattle.std.specs.Prelude.{⊤}
use Rattle.std.proofs.Common.{ne_eqb}
use Rattle.screen.specs.Cells.{line_end}
use Rattle.screen.specs.Fields.{field_end}
use Rattle.words.proofs.Laws.{either}
use Rattle.screen.proofs.CellLaws.{line_within}
use Rattle.screen.proofs.FieldLaws.{end_gt, start_le}
use Rattle.rules.specs.declared.Command.TheVariants.{Repeat}
use Rattle.rules.specs.declared.Edition.{Edition}
use Rattle.rules.specs.declared.Code.{Code}
use Rattle.rules.specs.declared.Fault.{Fault}
use Rattle.rules.specs.declared.Fault.TheVariants.{NotAgreed, UnknownCode, OffScreen, TooManyParameters, TooFewParameters, BadValue, BadMap}
use Rattle.rules.specs.declared.Frame.{Frame}
use Rattle.rules.specs.declared.Held.{Held}
use Rattle.rules.specs.Session.{View, cells, cursor_cell, with_attrs}
use Rattle.rules.specs.Number.{error, fault_number}
use Rattle.rules.specs.Edition.{code_for}
use Rattle.rules.specs.Command.{Row, row_of, meaning, code_in, parameter, fault_of}
use Rattle.rules.specs.Effect.{Effect, kept}
use Rattle.rules.specs.Cursor.{cursor_guarded, home_cell, back_tab_cell, first_field_cell, next_field_cell, previous_open_cell}
use Rattle.rules.specs.Telnet.{host_character, host_characters}
use Rattle.rules.specs.Subcommand.{obeyed, erring, judged, looked, subcommand}
use Rattle.command.specs.Inner.Frame.{OnScreen, Fits}
use Rattle.decide.specs.declared.decision.Edit.TheVariants.{Nothing}
use Rattle.decide.specs.declared.decision.Edit.TheVariants as edit
use Rattle.decide.specs.declared.decision.Say.TheVariants.{Silent, Three}
use Rattle.decide.specs.declared.decision.Decision.{Decision}
use Rattle.decide.specs.Decision.{Decides, shown}
use Rattle.decide.specs.Inner.Decision.{decision, Judges}
use Rattle.decide.proofs.DecideLaws.{decides, recast, cursor_lt, first_lt, last_lt}

-- ---- what lies on the screen

module _ {f : Frame} (on : OnScreen f) where
  -- the first cell
  pub origin_lt : 0 < cells f
  origin_lt = omega (arith, cursor_lt on)

module _ {v : View} (fits : Fits v) where
  -- the cursor's cell, and the end of its line
  pub cursor_in : cursor_cell v < length v.attrs
  cursor_in = rw fits.long (cursor_lt fits.on)

  pub line_in : line_end v.frame.width v.frame.cursor.y ≤ length v.attrs
  line_in = rw fits.long (line_within v.frame.width fits.on.y)

  -- the cursor's field ends after it
  pub field_after : cursor_cell v < field_end v.attrs (cursor_cell v)
  field_after = end_gt v.attrs (cursor_cell v) cursor_in

  -- the cells where scans send the cursor
  pub home_lt : home_cell v < cells v.frame
  unfolding home_cell
  home_lt =
      either (λ c. c < cells v.frame) v.frame.suppressed (λ e. origin_lt fits.on)
      (λ e. first_lt fits _ 0 0 (origin_lt fits.on) (omega arith))

  pub back_tab_lt : back_tab_cell v < cells v.frame
  unfolding back_tab_cell
  back_tab_lt =
      either (λ c. c < cells v.frame) v.frame.suppressed (λ e. origin_lt fits.on)
      (λ e. last_lt fits _ _ 0 (origin_lt fits.on))

  pub first_field_lt : (none : ℕ) → none < cells v.frame → first_field_cell v none < cells v.frame
  unfolding first_field_cell
  first_field_lt none h = first_lt fits _ 0 none h (omega arith)

  pub next_field_lt : next_field_cell v < cells v.frame
  unfolding next_field_cell
  next_field_lt = first_lt fits _ _ _ (first_field_lt _ (cursor_lt fits.on)) (omega (arith, cursor_in))

  pub previous_open_lt : previous_open_cell v < cells v.frame
  unfolding previous_open_cell
  previous_open_lt = last_lt fits _ _ _ (cursor_lt fits.on)

-- ---- decisions

-- 37: a repeated character touches no attribute byte, and says nothing
repeat_attrs : (n : ℕ) (v : View) (c : ℕ) → (host_characters n v c).view.attrs ≡ v.attrs
unfolding host_characters host_character
repeat_attrs zero v c = refl
repeat_attrs (suc n) v c =
    repeat_attrs n (host_character v c).view c ∙ either (λ (e : Effect). e.view.attrs ≡ v.attrs) (cursor_guarded v) (λ g. refl) (λ g. refl)

repeat_silent : (n : ℕ) (v : View) (c : ℕ) → (host_characters n v c).reply ≡ []
unfolding host_characters
repeat_silent zero v c = refl
repeat_silent (suc n) v c = refl

-- nor does it mark
pub repeat_unmarked : (n : ℕ) (v : View) (c : ℕ) → (host_characters n v c).marking ≡ kept
unfolding host_characters
repeat_unmarked zero v c = refl
repeat_unmarked (suc n) v c = refl

pub repeated : {v : View} {d : Decision} (h : Held) {n c : ℕ} → n ≡ parameter h 0 → c ≡ parameter h 1
    → d ≡ decision v.frame (edit.Repeat n c) Silent → Decides v d (λ v. obeyed v Repeat h)
unfolding obeyed
repeated {v} h {n} {c} p q e =
    rw (e, ← p, ← q) (record { meaning = as_shown (host_characters n v c) (repeat_attrs n v c) (repeat_silent n v c); sendable = tt })
  where
    as_shown : (e : Effect) → e.view.attrs ≡ v.attrs → e.reply ≡ []
        → record { view = with_attrs e.view v.attrs; changes = e.changes; marking = e.marking; reply = []; executed = [] } ≡ shown e
    as_shown e p q = rw (← p, q)

-- ---- ERRORs

-- what the row says, by its parts
row_says : {k : Code} (r : Row) → Some k ≡ meaning (Some r) → k ≡ record { command = r.command; parameters = r.parameters; governor = r.governor }
unfolding meaning
row_says r e = cc

-- a decision by the fault that the view shows
pub judged_by : {v : View} {d : Decision} {k : Code} (held : Held) {fault : Result ⊤ Fault}
    → fault ≡ fault_of v k.command k.parameters k.governor held
    → ((r : Row) → r.command ≡ k.command → Decides v d (λ w. judged w r held fault)) → Judges v d k held
judged_by {v} held e by r m =
    recast (by r (rw (row_says r m))) (ap (λ (x : Result ⊤ Fault). shown (judged v r held x)) (e ∙ rw (row_says r m)))

-- a fault but MOVE CURSOR's is an ERROR, and nothing changes
erred : (v : View) (r : Row) (h : Held) (fault : Fault) → (fault ≡ OffScreen → ⊥) → judged v r h (Err fault) ≡ erring v (code_in h) fault
unfolding judged
erred v r h NotAgreed o = refl
erred v r h UnknownCode o = refl
erred v r h OffScreen o = absurd (o refl)
erred v r h TooManyParameters o = refl
erred v r h TooFewParameters o = refl
erred v r h BadValue o = refl
erred v r h BadMap o = refl

pub errs : {v : View} {d : Decision} {k : Code} (h : Held) {fault : Fault} {n : ℕ}
    → Err fault ≡ fault_of v k.command k.parameters k.governor h → (fault ≡ OffScreen → ⊥) → n ≡ code_in h
    → d ≡ decision v.frame Nothing (Three (code_for v.frame.edition error) n (fault_number fault)) → Judges v d k h
errs {v} h e o is by = judged_by h e (λ r c. decides by tt (rw (erred v r h _ o, is)))

-- a decision by what the list says of the code
module _ {v : View} {d : Decision} (h : Held) {e : Edition} {n : ℕ} (some : h.count ≡ 0 → ⊥) (at : e ≡ v.frame.edition) (is : n ≡ code_in h) where
  pub looked_known : {k : Code} → Some k ≡ meaning (row_of e n) → Judges v d k h → Decides v d (λ w. subcommand w h)
  unfolding subcommand meaning looked
  looked_known {k} m by = by_row (row_of v.frame.edition (code_in h)) refl (m ∙ rw (at, is))
    where
      by_row : (l : Option Row) → row_of v.frame.edition (code_in h) ≡ l → Some k ≡ meaning l → Decides v d (λ w. subcommand w h)
      by_row (Some r) q m = recast (by r m) (rw (ne_eqb _ _ some, q))
      by_row None q m = cc

  pub looked_unknown : None ≡ meaning (row_of e n) → d ≡ decision v.frame Nothing (Three (code_for v.frame.edition error) n (fault_number UnknownCode))
      → Decides v d (λ w. subcommand w h)
  unfolding subcommand meaning looked
  looked_unknown m by = by_row (row_of v.frame.edition (code_in h)) refl (m ∙ rw (at, is))
    where
      by_row : (l : Option Row) → row_of v.frame.edition (code_in h) ≡ l → None ≡ meaning l → Decides v d (λ w. subcommand w h)
      by_row (Some r) q m = cc
      by_row None q m = decides by tt (rw (ne_eqb _ _ some, q, is))

-- where a destination is on the screen
pub ruleset destinations = (home_lt, back_tab_lt, first_field_lt, next_field_lt, previous_open_lt)

-- what a command draws, by its fault
pub ruleset judging = (judged_by, errs)

-- where a transmission begins
pub ruleset sending = (start_le, line_in)

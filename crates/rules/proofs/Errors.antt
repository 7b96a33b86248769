-- A command that draws an ERROR changes nothing, except that MOVE CURSOR's limits the cursor.
use Rattle.std.proofs.Common.{◌≡◌, refl, ap, not, [], ℕ, ◌+◌, arith, ltb, eqb, length, Option, Some, None, Result, Ok, Err}
use Rattle.std.specs.Prelude.{⊤}
use Rattle.words.proofs.Laws.{either}
use Rattle.rules.specs.declared.Held.{Held}
use Rattle.rules.specs.declared.Command.{Command}
use Rattle.rules.specs.declared.Fault.{Fault}
use Rattle.rules.specs.declared.Governor.{Governor}
use Rattle.rules.specs.declared.Fault.TheVariants.{NotAgreed, UnknownCode, OffScreen, TooManyParameters, TooFewParameters, BadValue, BadMap}
use Rattle.rules.specs.Session.{View, with_cursor}
use Rattle.rules.specs.Effect.{Effect}
use Rattle.rules.specs.Facility.{agreed}
use Rattle.rules.specs.Command.{Row, row_of, code_in, place_in, value_fault, fault_of}
use Rattle.rules.specs.Cursor.{limited}
use Rattle.rules.specs.Subcommand.{erring, judged, looked, subcommand}
-- the sentences of document 01 are checked first, so that a wrong rule is refused there
use Rattle.rules.proofs.Causes.{nothing_else}

-- the view after an ERROR: as before, but for the cursor that MOVE CURSOR has limited
abbrev pub after_fault : View → Held → Fault → View
after_fault v h OffScreen = with_cursor v (limited v.frame (place_in h))
after_fault v h NotAgreed = v
after_fault v h UnknownCode = v
after_fault v h TooManyParameters = v
after_fault v h TooFewParameters = v
after_fault v h BadValue = v
after_fault v h BadMap = v

-- One ERROR is said. By what `erring` is, no character changes and nothing is executed.
pub record Errs (v : View) (h : Held) (e : Effect) : Type 0 where
  pub code : ℕ
  pub fault : Fault
  pub is : e ≡ erring (after_fault v h fault) code fault

module _ (v : View) (h : Held) where
  errs : (code : ℕ) (f : Fault) → Errs v h (erring (after_fault v h f) code f)
  errs code f = record { code = code; fault = f; is = refl }

  -- a command whose code is known
  pub errs_judged : (r : Row) (f : Result ⊤ Fault) → (judged v r h f).executed ≡ [] → Errs v h (judged v r h f)
  unfolding judged
  errs_judged r (Ok passed) e = absurd (omega (arith, ap length e))
  errs_judged r (Err OffScreen) e = errs _ OffScreen
  errs_judged r (Err NotAgreed) e = errs _ NotAgreed
  errs_judged r (Err UnknownCode) e = errs _ UnknownCode
  errs_judged r (Err TooManyParameters) e = errs _ TooManyParameters
  errs_judged r (Err TooFewParameters) e = errs _ TooFewParameters
  errs_judged r (Err BadValue) e = errs _ BadValue
  errs_judged r (Err BadMap) e = errs _ BadMap

  -- a code, in the list or not
  pub errs_looked : (l : Option Row) → (looked v l h).executed ≡ [] → Errs v h (looked v l h)
  unfolding looked
  errs_looked None e = errs _ UnknownCode
  errs_looked (Some r) e = errs_judged r _ e

  -- a subcommand
  pub errs_subcommand : (subcommand v h).executed ≡ [] → Errs v h (subcommand v h)
  unfolding subcommand
  errs_subcommand =
      either (λ (s : Effect). s.executed ≡ [] → Errs v h s) (eqb h.count 0) (λ t e. errs 0 TooFewParameters)
      (λ t. errs_looked (row_of v.frame.edition (code_in h)))

-- where no ERROR is drawn, the values draw none
pub no_fault : (v : View) (c : Command) (n : ℕ) (g : Option Governor) (h : Held) → fault_of v c n g h ≡ Ok tt → value_fault v c h ≡ Ok tt
unfolding fault_of
no_fault v c n g h =
    let P : Result ⊤ Fault → Type 0 = λ f. f ≡ Ok tt → value_fault v c h ≡ Ok tt in
    either P (not (agreed v.frame.edition v.frame.received g)) (λ q e. cc)
    (λ q. either P (ltb h.count (n + 1)) (λ q e. cc) (λ q. either P (ltb (n + 1) h.count) (λ q e. cc) (λ q e. e)))

-- A character by its fate.
use Rattle.std.specs.Prelude.{Ok, Err}
use Rattle.rules.specs.declared.Refusal.TheVariants.{Guarded, WrongClass}
use Rattle.rules.specs.Refusal.{Verdict}
use Rattle.rules.specs.Session.{View}
use Rattle.rules.specs.Effect.{Effect}
use Rattle.command.specs.Inner.Frame.{Fits}
use Rattle.decide.specs.declared.text.Writer.{Writer}
use Rattle.decide.specs.declared.text.Writer.TheVariants.{Host, Operator}
use Rattle.decide.specs.declared.text.Fate.{Fate}
use Rattle.decide.specs.declared.text.Fate.TheVariants.{Written, Dropped, RefusedByGuard, RefusedByClass}

-- what is done with a character of this fate
unfoldable pub if_written : Fate → Effect → Effect → Effect
if_written Written done none = done
if_written Dropped done none = none
if_written RefusedByGuard done none = none
if_written RefusedByClass done none = none

-- what a typed character of this fate draws
abbrev pub fate_refusal : Fate → Verdict
fate_refusal Written = Ok tt
fate_refusal Dropped = Ok tt
fate_refusal RefusedByGuard = Err Guarded
fate_refusal RefusedByClass = Err WrongClass

-- what a writer asks: the operator's cursor goes by the attribute bytes
abbrev pub Ready : Writer → View → Type 0
Ready Host v = Unit {0}
Ready Operator v = Fits v

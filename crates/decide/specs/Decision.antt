-- What a decision means: the effect of the rules that it stands for.
use Rattle.std.specs.Prelude.{◌≡◌, ◌&&◌, List, [], ◌∷◌, ℕ, ◌+◌, ◌*◌, ◌≤◌, eqb, length, if◌then◌else◌, Option, Some, None}
use Rattle.edit.specs.Edits.{filled}
use Rattle.rules.specs.declared.Held.{Held}
use Rattle.rules.specs.declared.Edition.{Edition}
use Rattle.rules.specs.Number.{det_option}
use Rattle.rules.specs.Session.{View, view, with_attrs}
use Rattle.rules.specs.Effect.{Effect, Part, put, erase, shift, cleared, bytes, text, message, changing, quiet, writing}
use Rattle.rules.specs.Telnet.{answer, host_characters}
use Rattle.rules.specs.Subcommand.{preface_bytes, field_texts, without_first, modified_texts, subcommand}
use Rattle.command.specs.Frame.{fitting}
use Rattle.decide.specs.declared.decision.Edit.{Edit}
use Rattle.decide.specs.declared.decision.Edit.TheVariants.{Nothing, Put, Erase, Shift, Repeat}
use Rattle.decide.specs.declared.decision.Say.{Say}
use Rattle.decide.specs.declared.decision.Say.TheVariants.{Silent, Negotiation, Two, Three, Preface, Text, Fields, Modified}
use Rattle.decide.specs.declared.decision.Fill.{Fill}
use Rattle.decide.specs.declared.decision.Decision.{Decision}

-- what becomes of the characters, where the cursor goes with them, and which cells are marked
abbrev pub edited : View → Edit → Effect
edited v Nothing = quiet v
edited v (Put cell c) = writing v (put cell c) cell (cell + 1)
edited v (Erase suppressed from end) = changing v (erase suppressed from end ∷ [])
edited v (Shift s from end by) = writing v (shift s from end by) from end
edited v (Repeat n c) = host_characters n v c

-- what is sent, with the codes of an edition
abbrev pub parts_of : Edition → List ℕ → Say → List Part
parts_of e attrs Silent = []
parts_of e attrs (Negotiation verb option) = answer verb option
parts_of e attrs (Two code a) = message (code ∷ a ∷ []) ∷ []
parts_of e attrs (Three code a b) = message (code ∷ a ∷ b ∷ []) ∷ []
parts_of e attrs (Preface p) = bytes (preface_bytes e p) ∷ []
parts_of e attrs (Text p from end) = bytes (preface_bytes e p) ∷ text from end ∷ []
parts_of e attrs (Fields p) = bytes (preface_bytes e p) ∷ without_first (field_texts e attrs 0 (length attrs))
parts_of e attrs (Modified width) = modified_texts e width attrs 0 (length attrs)

-- what becomes of the attribute bytes
abbrev pub attrs_of : Option Fill → List ℕ → List ℕ
attrs_of None attrs = attrs
attrs_of (Some f) attrs = filled f.from f.end f.attr attrs

abbrev pub meant : List ℕ → Decision → Effect
meant attrs d =
    let e = edited (view d.frame attrs) d.edit in
    record {
      view = with_attrs e.view (attrs_of d.format attrs);
      changes = e.changes;
      marking = if d.clear then cleared else e.marking;
      reply = parts_of d.frame.edition attrs d.say;
      executed = [];
    }

-- an effect but for the commands that it executes, which no answer tells
abbrev pub shown : Effect → Effect
shown e = record { view = e.view; changes = e.changes; marking = e.marking; reply = e.reply; executed = [] }

-- a text that is sent lies on the screen; for the prefaces of 27, a byte can number the line of every cell
abbrev pub Sendable : List ℕ → Say → Type 0
Sendable attrs Silent = Unit {0}
Sendable attrs (Negotiation verb option) = Unit {0}
Sendable attrs (Two code a) = Unit {0}
Sendable attrs (Three code a b) = Unit {0}
Sendable attrs (Preface p) = Unit {0}
Sendable attrs (Text p from end) = (from ≤ end) × (end ≤ length attrs)
Sendable attrs (Fields p) = Unit {0}
Sendable attrs (Modified width) = length attrs ≤ 256 * width

-- the decision is what the rule says of this view
pub record Decides (v : View) (d : Decision) (rule : View → Effect) : Type 0 where
  pub meaning : meant v.attrs d ≡ shown (rule v)
  pub sendable : Sendable v.attrs d.say

-- what a rule says where the cursor is on the screen and the attribute bytes are the screen's; elsewhere nothing is done
unfoldable pub where_fits : (View → Effect) → View → Effect
where_fits rule v = if fitting v then rule v else quiet v

-- A subnegotiation that ended, with these bytes held: obeyed if it was option 20's and DET is on. Option 30's are the PAD's.
unfoldable pub ended_det : View → Held → ℕ → Effect
ended_det v h option = if eqb option det_option && v.frame.det then subcommand v h else quiet v

-- What the private functions of the decisions promise, and what whoever applies a decision goes by.
use Rattle.std.specs.Prelude.{◌≡◌, false, List, [], ◌∷◌, ◌+◌, Some, None}
use Rattle.rules.specs.declared.Frame.{Frame}
use Rattle.rules.specs.declared.Held.{Held}
use Rattle.rules.specs.declared.Code.{Code}
use Rattle.rules.specs.Session.{View}
use Rattle.rules.specs.Command.{Row, meaning, fault_of}
use Rattle.rules.specs.Effect.{Change, Marking, put, erase, shift, kept, marked}
use Rattle.rules.specs.Subcommand.{judged}
use Rattle.decide.specs.declared.decision.Edit.{Edit}
use Rattle.decide.specs.declared.decision.Edit.TheVariants.{Nothing, Put, Erase, Shift, Repeat}
use Rattle.decide.specs.declared.decision.Say.{Say}
use Rattle.decide.specs.declared.decision.Decision.{Decision}
use Rattle.decide.specs.Decision.{edited, Decides}

-- one that formats nothing and clears no marks
abbrev pub decision : Frame → Edit → Say → Decision
decision f edit say = record { frame = f; edit = edit; say = say; format = None; clear = false }

-- the changes that are settled without the view: REPEAT has none
abbrev pub changes_of : Edit → List Change
changes_of Nothing = []
changes_of (Put cell c) = put cell c ∷ []
changes_of (Erase suppressed from end) = erase suppressed from end ∷ []
changes_of (Shift s from end by) = shift s from end by ∷ []
changes_of (Repeat n c) = []

-- and what becomes of the marks: a typed character and a shift mark the cells that they write
abbrev pub marking_of : Edit → Marking
marking_of Nothing = kept
marking_of (Put cell c) = marked cell (cell + 1)
marking_of (Erase suppressed from end) = kept
marking_of (Shift s from end by) = marked from end
marking_of (Repeat n c) = kept

-- not REPEAT: these are all it does
abbrev pub Once : Edit → Type 0
Once edit =
    (v : View) → edited v edit ≡ record { view = v; changes = changes_of edit; marking = marking_of edit; reply = []; executed = [] }

-- what a command comes to whose row in the list says this
abbrev pub Judges : View → Decision → Code → Held → Type 0
Judges v d code h =
    (r : Row) → Some code ≡ meaning (Some r) → Decides v d (λ v. judged v r h (fault_of v r.command r.parameters r.governor h))

-- Documents 01 and 02: what alone may change the attribute bytes, the options, suppression, the maps received, the characters, the
-- marks, the cursor, and what the PAD keeps. Nothing here is used by the rules: these are sentences about them.
use Rattle.std.specs.Prelude.{◌≡◌, Bool, true, false, not, ◌&&◌, ◌||◌, List, [], ◌∷◌, ℕ, ltb, eqb, take, if◌then◌else◌}
use Rattle.telnet.specs.declared.Verb.{Verb}
use Rattle.telnet.specs.declared.Event.{Event}
use Rattle.telnet.specs.declared.Event.TheVariants.{Nothing, Data, Negotiation, Begin, Sub, End, EndBare, Lost}
use Rattle.telnet.specs.Reader.{verb_code, read_of}
use Rattle.words.specs.Words.{between}
use Rattle.pad.specs.declared.message.Stage.{Stage}
use Rattle.pad.specs.declared.message.Stage.TheVariants.{Code, Parameter, Value}
use Rattle.rules.specs.declared.Held.{Held}
use Rattle.rules.specs.declared.Edition.{Edition}
use Rattle.rules.specs.declared.Frame.{Frame}
use Rattle.rules.specs.declared.Reader.{Reader}
use Rattle.rules.specs.declared.Pad.{Pad}
use Rattle.rules.specs.Session.{View, State, view_of}
use Rattle.rules.specs.Effect.{Executed}
use Rattle.rules.specs.Edition.{meant_by}
use Rattle.rules.specs.Command.{code_in}
use Rattle.rules.specs.Subcommand.{subcommand}
use Rattle.rules.specs.Operation.{host_byte}
use Rattle.rules.specs.Call.{Call, host, key, called, left}
use Rattle.rules.specs.Executed.{one_of}

-- ---- what may change

pub data Aspect : Type 0 where
  attributes : Aspect
  det : Aspect
  x3 : Aspect
  suppression : Aspect
  received : Aspect  -- the maps received
  characters : Aspect
  marks : Aspect
  cursor : Aspect
  values : Aspect  -- of the PAD's parameters
  line : Aspect  -- the edit line

abbrev pub Same : Aspect → State → State → Type 0
Same attributes s t = t.screen.attrs ≡ s.screen.attrs
Same det s t = t.session.frame.det ≡ s.session.frame.det
Same x3 s t = t.session.frame.x3 ≡ s.session.frame.x3
Same suppression s t = t.session.frame.suppressed ≡ s.session.frame.suppressed
Same received s t = t.session.frame.received ≡ s.session.frame.received
Same characters s t = t.screen.chars ≡ s.screen.chars
Same marks s t = t.screen.marks ≡ s.screen.marks
Same cursor s t = t.session.frame.cursor ≡ s.session.frame.cursor
Same values s t = t.session.pad.values ≡ s.session.pad.values
Same line s t = t.session.pad.line ≡ s.session.pad.line

-- ---- what may change it

-- bytes of host data; commands executed, and commands that draw an ERROR, by their codes; negotiations of an option, by their verbs;
-- messages of option 30 that end while it is on, by their codes; keys, and keys that the edit line takes
pub record Changers : Type 0 where
  pub text : ℕ → Bool
  pub executed : List ℕ
  pub failed : List ℕ
  pub option : ℕ
  pub verbs : List ℕ
  pub messages : List ℕ
  pub keys : ℕ → Bool
  pub typed : ℕ → Bool

abbrev pub none : ℕ → Bool
none n = false

-- 32 to 126, or one of these
abbrev pub printable_or : List ℕ → ℕ → Bool
printable_or others n = between 32 126 n || one_of others n

-- nothing but negotiations of an option
abbrev pub switches : ℕ → List ℕ → Changers
switches option verbs =
    record { text = none; executed = []; failed = []; option = option; verbs = verbs; messages = []; keys = none; typed = none }

unfoldable pub changers : Aspect → Changers
-- nothing but 29 and 36
changers attributes =
    record { text = none; executed = 29 ∷ 36 ∷ []; failed = []; option = 20; verbs = []; messages = []; keys = none; typed = none }
-- nothing but DO and DONT: 20, 30
changers det = switches 20 (253 ∷ 254 ∷ [])
changers x3 = switches 30 (253 ∷ 254 ∷ [])
-- nothing but 38 and DONT 20
changers suppression =
    record { text = none; executed = 38 ∷ []; failed = []; option = 20; verbs = 254 ∷ []; messages = []; keys = none; typed = none }
-- nothing but 1 to 4 and DONT 20
changers received =
    record {
      text = none;
      executed = 1 ∷ 2 ∷ 3 ∷ 4 ∷ [];
      failed = [];
      option = 20;
      verbs = 254 ∷ [];
      messages = [];
      keys = none;
      typed = none;
    }
-- nothing but host text, 37, the shifts 13 to 16 and key 127, the erasures 29 to 35, typing, and what the edit line echoes, where a 0
-- shows nothing
changers characters =
    record {
      text = printable_or [];
      executed = 13 ∷ 14 ∷ 15 ∷ 16 ∷ 29 ∷ 30 ∷ 31 ∷ 32 ∷ 33 ∷ 34 ∷ 35 ∷ 37 ∷ [];
      failed = [];
      option = 20;
      verbs = [];
      messages = [];
      keys = printable_or (127 ∷ []);
      typed = between 1 127;
    }
-- nothing but the shifts 13 to 16 and key 127, typing, and 27, 29 and 35, which clear them
changers marks =
    record {
      text = none;
      executed = 13 ∷ 14 ∷ 15 ∷ 16 ∷ 27 ∷ 29 ∷ 35 ∷ [];
      failed = [];
      option = 20;
      verbs = [];
      messages = [];
      keys = printable_or (127 ∷ []);
      typed = none;
    }
-- nothing but host text, CR, LF and BS; 5 even where it draws an ERROR, 6 to 12, 19 to 22, 27, 29, 35, 37; typing, keys 8, 9 and 13, and
-- what the edit line echoes
changers cursor =
    record {
      text = printable_or (13 ∷ 10 ∷ 8 ∷ []);
      executed = 5 ∷ 6 ∷ 7 ∷ 8 ∷ 9 ∷ 10 ∷ 11 ∷ 12 ∷ 19 ∷ 20 ∷ 21 ∷ 22 ∷ 27 ∷ 29 ∷ 35 ∷ 37 ∷ [];
      failed = 5 ∷ [];
      option = 20;
      verbs = [];
      messages = [];
      keys = printable_or (8 ∷ 9 ∷ 13 ∷ []);
      typed = between 1 127;
    }
-- nothing but SET and RESPONSE-SET
changers values =
    record { text = none; executed = []; failed = []; option = 30; verbs = []; messages = 0 ∷ 1 ∷ []; keys = none; typed = none }
-- nothing but DONT 30 and the keys that it takes
changers line =
    record { text = none; executed = []; failed = []; option = 30; verbs = 254 ∷ []; messages = []; keys = none; typed = between 0 127 }

-- ---- the causes in a call

pub data Cause : Type 0 where
  byte : ℕ → Cause  -- of host data
  execution : ℕ → Cause  -- of the command of this code in document 01
  failure : ℕ → Cause  -- of that command, by an ERROR
  negotiation : Verb → ℕ → Cause
  message : ℕ → Cause  -- of option 30 and this code, with a value for each parameter
  keystroke : ℕ → Cause
  typing : ℕ → Cause  -- of a key that the edit line takes
  nothing : Cause

unfoldable pub may_change : Aspect → Cause → Bool
may_change a (byte b) = (changers a).text b
may_change a (execution code) = one_of (changers a).executed code
may_change a (failure code) = one_of (changers a).failed code
may_change a (negotiation verb option) = eqb option (changers a).option && one_of (changers a).verbs (verb_code verb)
may_change a (message code) = one_of (changers a).messages code
may_change a (keystroke k) = (changers a).keys k
may_change a (typing k) = (changers a).typed k
may_change a nothing = false

-- a subnegotiation that is obeyed: its command was executed, or drew an ERROR
unfoldable pub command_cause : Edition → Held → List Executed → Cause
command_cause edition h [] = failure (meant_by edition (code_in h))
command_cause edition h (e ∷ es) = execution e.row.code

-- a message of option 30 that ends: no code, or a parameter without its value, and it is none
unfoldable pub message_cause : Stage → Cause
message_cause Code = nothing
message_cause (Parameter code) = message code
message_cause (Value code parameter) = nothing

-- what the reader told
unfoldable pub cause_of : View → Reader → Pad → Event → Cause
cause_of v r p (Data b) = byte b
cause_of v r p (Negotiation verb option) = negotiation verb option
cause_of v r p (End option) =
    if eqb option 20 && v.frame.det then command_cause v.frame.edition r.held (subcommand v r.held).executed
    else if eqb option 30 && v.frame.x3 then message_cause p.message.stage
    else nothing
cause_of v r p Nothing = nothing
cause_of v r p (Begin option) = nothing
cause_of v r p (Sub option b) = nothing
cause_of v r p EndBare = nothing
cause_of v r p Lost = nothing

-- host bytes one after the other
unfoldable pub causes_in : State → List ℕ → List Cause
causes_in s [] = []
causes_in s (b ∷ bs) =
    let r = s.session.reader in
    cause_of (view_of s) r s.session.pad (read_of r.phase b).event ∷ causes_in (host_byte s b).state bs

-- a key, or one that the edit line takes: 0 to 127 while option 30 is on and DET is off
unfoldable pub key_cause : Frame → ℕ → Cause
key_cause f k = if (f.x3 && not f.det) && ltb k 128 then typing k else keystroke k

-- a call, as far as it is taken
unfoldable pub causes_of : State → Call → List Cause
causes_of s (host input reply) = causes_in s (take (called s (host input reply)).answer.taken input)
causes_of s (key k reply) = take (called s (key k reply)).answer.taken (key_cause s.session.frame k ∷ [])

-- ---- nothing else changes it

unfoldable pub none_changes : Aspect → List Cause → Bool
none_changes a [] = true
none_changes a (c ∷ cs) = not (may_change a c) && none_changes a cs

abbrev pub NothingElse : Type 0
NothingElse = (a : Aspect) (s : State) (c : Call) → none_changes a (causes_of s c) ≡ true → Same a s (left (called s c))

-- nothing changes the edition (request (vi))
abbrev pub EditionKept : Type 0
EditionKept = (s : State) (c : Call) → (called s c).answer.session.frame.edition ≡ s.session.frame.edition

-- a key leaves the reader as it was
abbrev pub ReaderKept : Type 0
ReaderKept = (s : State) (k : ℕ) (reply : List ℕ) → (called s (key k reply)).answer.session.reader ≡ s.session.reader

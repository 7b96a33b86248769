-- Document 01, the end of "Subcommands": which commands are executed, and which of them reach past protection. The premise of demand 3,
-- in the codes of either edition (document 02, request (vi)). Nothing here is used by the rules: these are sentences about them.
use Rattle.std.specs.Prelude.{◌≡◌, Bool, true, false, not, ◌&&◌, ◌||◌, List, [], ◌∷◌, ◌++◌, ℕ, eqb, get_or, take, Some, None, Ok}
use Rattle.telnet.specs.declared.Event.{Event}
use Rattle.telnet.specs.declared.Event.TheVariants.{End}
use Rattle.telnet.specs.Reader.{read_of}
use Rattle.rules.specs.declared.Held.{Held}
use Rattle.rules.specs.declared.Edition.{Edition}
use Rattle.rules.specs.declared.Edition.TheVariants.{June, September}
use Rattle.rules.specs.declared.Reader.{Reader}
use Rattle.rules.specs.declared.Pad.{Pad}
use Rattle.rules.specs.Session.{View, State, view_of}
use Rattle.rules.specs.Effect.{Executed}
use Rattle.rules.specs.Command.{Row, row_of, code_in, reaches_past, fault_of}
use Rattle.rules.specs.Facility.{agreed}
use Rattle.rules.specs.Subcommand.{subcommand}
use Rattle.rules.specs.Operation.{happening, host_byte, running}
use Rattle.rules.specs.Call.{Call, host, key, called, left, executed_by, executed_of}
use Rattle.rules.specs.Noninterference.{none_reaches}

-- is a number one of these
unfoldable pub one_of : List ℕ → ℕ → Bool
one_of [] n = false
one_of (m ∷ ms) n = eqb n m || one_of ms n

-- ---- the seven

-- by the code of the edition and the first parameter
unfoldable pub is_seven : Edition → ℕ → ℕ → Bool
is_seven September code first = one_of (20 ∷ 22 ∷ 24 ∷ 25 ∷ 29 ∷ 36 ∷ []) code || (eqb code 38 && eqb first 253)
is_seven June code first = one_of (20 ∷ 22 ∷ 24 ∷ 25 ∷ 28 ∷ 35 ∷ []) code || (eqb code 37 && eqb first 253)

-- a command of the list, with any bytes held: the first parameter is the byte after the code
abbrev pub Seven : Type 0
Seven =
    (e : Edition) (code : ℕ) (r : Row) (h : Held)
    → row_of e code ≡ Some r → reaches_past r h ≡ is_seven e code (get_or h.bytes 1 0)

-- ---- what a subcommand executes: itself where its code is in the list, its facility is agreed and it draws no ERROR, and else nothing

pub record SubcommandExecutes (v : View) (h : Held) : Type 0 where
  pub itself : (r : Row) → row_of v.frame.edition (code_in h) ≡ Some r → eqb h.count 0 ≡ false
      → fault_of v r.command r.parameters r.governor h ≡ Ok tt
      → (subcommand v h).executed ≡ record { row = r; held = h } ∷ []
  pub no_error : (r : Row) → row_of v.frame.edition (code_in h) ≡ Some r
      → (fault_of v r.command r.parameters r.governor h ≡ Ok tt → ⊥)
      → (subcommand v h).executed ≡ []
  pub not_agreed : (r : Row) → row_of v.frame.edition (code_in h) ≡ Some r
      → agreed v.frame.edition v.frame.received r.governor ≡ false
      → (subcommand v h).executed ≡ []
  pub no_code : row_of v.frame.edition (code_in h) ≡ None → (subcommand v h).executed ≡ []
  pub no_byte : eqb h.count 0 ≡ true → (subcommand v h).executed ≡ []

-- ---- what the reader's news executes: the end of a subnegotiation of option 20 while DET is on, and nothing else

pub record EventExecutes (v : View) (r : Reader) (p : Pad) : Type 0 where
  pub ended : v.frame.det ≡ true → (happening v r p (End 20)).executed ≡ (subcommand v r.held).executed
  pub while_off : (option : ℕ) → v.frame.det ≡ false → (happening v r p (End option)).executed ≡ []
  pub other_option : (option : ℕ) → eqb option 20 ≡ false → (happening v r p (End option)).executed ≡ []
  -- no option byte, thrown away, or no end
  pub otherwise : (e : Event) → ((option : ℕ) → e ≡ End option → ⊥) → (happening v r p e).executed ≡ []

-- ---- what host bytes, a call and a list of calls execute

pub record CallExecutes (s : State) : Type 0 where
  pub byte : (b : ℕ)
      → let r = s.session.reader in
      (host_byte s b).executed ≡ (happening (view_of s) r s.session.pad (read_of r.phase b).event).executed
  pub no_bytes : (running s []).executed ≡ []
  pub more_bytes : (b : ℕ) (bs : List ℕ)
      → (running s (b ∷ bs)).executed ≡ (host_byte s b).executed ++ (running (host_byte s b).state bs).executed
  -- host bytes execute what those of them do that the call counts as taken; a key executes nothing
  pub taken : (input reply : List ℕ)
      → executed_by s (host input reply) ≡ (running s (take (called s (host input reply)).answer.taken input)).executed
  pub a_key : (k : ℕ) (reply : List ℕ) → executed_by s (key k reply) ≡ []
  pub refused : (c : Call) → ((called s c).answer.verdict ≡ Ok tt → ⊥) → executed_by s c ≡ []
  pub no_calls : executed_of s [] ≡ []
  pub more_calls : (c : Call) (cs : List Call) → executed_of s (c ∷ cs) ≡ executed_by s c ++ executed_of (left (called s c)) cs

-- ---- the premise of demand 3, by the bytes that each command came in

unfoldable pub none_seven : Edition → List Executed → Bool
none_seven edition [] = true
none_seven edition (e ∷ es) =
    not (is_seven edition (get_or e.held.bytes 0 0) (get_or e.held.bytes 1 0)) && none_seven edition es

abbrev pub PremiseInNumbers : Type 0
PremiseInNumbers =
    (s : State) (calls : List Call)
    → none_reaches (executed_of s calls) ≡ none_seven s.session.frame.edition (executed_of s calls)

-- The premise of demand 3: the seven by their numbers, and what a call executes.
use Rattle.std.proofs.Common.{◌≡◌, refl, ap, ap₂, ◌∙◌, false, not, ◌&&◌, List, [], ◌∷◌, map, ℕ, eqb, get_or, Option, Some, None, Result, Ok, Err, leb}
use Rattle.std.specs.Prelude.{⊤}
use Rattle.telnet.specs.declared.Verb.{Verb}
use Rattle.telnet.specs.declared.Verb.TheVariants.{Will, Wont, Do, Dont}
use Rattle.telnet.specs.declared.Event.{Event}
use Rattle.telnet.specs.declared.Event.TheVariants.{Nothing, Data, Negotiation, Begin, Sub, End, EndBare, Lost}
use Rattle.words.proofs.Laws.{either, and_false}
use Rattle.rules.specs.declared.Held.{Held}
use Rattle.rules.specs.declared.Edition.{Edition}
use Rattle.rules.specs.declared.Edition.TheVariants.{June, September}
use Rattle.rules.specs.declared.Reader.{Reader}
use Rattle.rules.specs.declared.Pad.{Pad}
use Rattle.rules.specs.declared.Fault.{Fault}
use Rattle.rules.specs.declared.Fault.TheVariants.{NotAgreed, UnknownCode, OffScreen, TooManyParameters, TooFewParameters, BadValue, BadMap}
use Rattle.rules.specs.Number.{det_option}
use Rattle.rules.specs.Session.{View, State, printable, x3_cells, cells}
use Rattle.rules.specs.Refusal.{is_taken}
use Rattle.rules.specs.Edition.{code_for}
use Rattle.rules.specs.Effect.{Effect, Executed}
use Rattle.rules.specs.Facility.{agreed}
use Rattle.rules.specs.Command.{Row, rows, row_of, code_in, reaches, reaches_past, fault_of}
use Rattle.rules.specs.Cursor.{cursor_guarded}
use Rattle.rules.specs.Telnet.{is_on, accepts, switched_on, switched_off, negotiated, host_character, host_data}
use Rattle.rules.specs.Pad.{passes}
use Rattle.rules.specs.Subcommand.{judged, looked, subcommand}
use Rattle.rules.specs.Operation.{happening, host_byte, running, unless, host_bytes, host_refusal}
use Rattle.rules.specs.Call.{Call, host, key, called, left, executed_by, executed_of}
use Rattle.rules.specs.Executed.{one_of, is_seven, Seven, SubcommandExecutes, EventExecutes, CallExecutes, none_seven, PremiseInNumbers}
use Rattle.rules.specs.Noninterference.{none_reaches}
use Rattle.rules.proofs.Verdicts.{taken_or_refused}
use Rattle.rules.proofs.All.{All, all_append, all_equal}
use Rattle.rules.proofs.Rows.{in_list, found_code}
use Rattle.rules.proofs.Editions.{code_back}
use Rattle.rules.proofs.Options.{by_option}
use Rattle.rules.proofs.Causes.{edition_byte, edition_kept}

-- ---- the seven

-- row by row, by the code that the edition has for it, whatever is held
pub seven_rows : (e : Edition) (h : Held)
    → map (λ r. reaches_past r h) rows ≡ map (λ r. is_seven e (code_for e r.code) (get_or h.bytes 1 0)) rows
unfolding rows reaches is_seven one_of code_for
seven_rows June h = refl
seven_rows September h = refl

pub seven : Seven
seven e code r h q =
    let row = in_list (λ r. reaches_past r h ≡ is_seven e (code_for e r.code) (get_or h.bytes 1 0)) (all_equal _ _ rows (seven_rows e h)) e code in
    rw q at row ∙ ap (λ c. is_seven e c (get_or h.bytes 1 0)) (ap (code_for e) (found_code e code r q) ∙ code_back e code)

-- ---- a subcommand

module _ (v : View) (h : Held) where
  erring_none : (r : Row) (f : Result ⊤ Fault) → (f ≡ Ok tt → ⊥) → (judged v r h f).executed ≡ []
  unfolding judged
  erring_none r (Ok passed) p = absurd (p refl)
  erring_none r (Err OffScreen) p = refl
  erring_none r (Err NotAgreed) p = refl
  erring_none r (Err UnknownCode) p = refl
  erring_none r (Err TooManyParameters) p = refl
  erring_none r (Err TooFewParameters) p = refl
  erring_none r (Err BadValue) p = refl
  erring_none r (Err BadMap) p = refl

  -- no command byte, or a code as it is looked up
  known_none : (l : Option Row) → row_of v.frame.edition (code_in h) ≡ l → (looked v l h).executed ≡ [] → (subcommand v h).executed ≡ []
  unfolding subcommand
  known_none l e q = either (λ (s : Effect). s.executed ≡ []) (eqb h.count 0) (λ t. refl) (λ t. rw e q)

  unagreed : (r : Row) → agreed v.frame.edition v.frame.received r.governor ≡ false
      → fault_of v r.command r.parameters r.governor h ≡ Err NotAgreed
  unfolding fault_of
  unagreed r a = rw a

  pub subcommand_executes : SubcommandExecutes v h
  unfolding subcommand looked judged
  subcommand_executes =
      record {
        itself = λ r e n f. rw (n, e, f);
        no_error = λ r e f. known_none (Some r) e (erring_none r _ f);
        not_agreed = λ r e a. known_none (Some r) e (rw (unagreed r a));
        no_code = λ e. known_none None e refl;
        no_byte = λ e. rw e;
      }

-- ---- what the reader told

module _ (v : View) where
  abbrev ExecutesNone : Effect → Type 0
  ExecutesNone e = e.executed ≡ []

  data_none : (b : ℕ) → ExecutesNone (host_data v b)
  unfolding host_data host_character
  data_none b =
      either ExecutesNone (printable b) (λ q. either ExecutesNone (cursor_guarded v) (λ q. refl) (λ q. refl))
      (λ q. either ExecutesNone (eqb b 13) (λ q. refl)
      (λ q. either ExecutesNone (eqb b 10) (λ q. refl) (λ q. either ExecutesNone (eqb b 8) (λ q. refl) (λ q. refl))))

  negotiated_none : (verb : Verb) (option : ℕ) → ExecutesNone (negotiated v verb option)
  unfolding negotiated switched_on switched_off is_on accepts
  negotiated_none Will option = refl
  negotiated_none Wont option = refl
  negotiated_none Do option =
      by_option (λ o. ExecutesNone (switched_on v o option)) option (λ e. either ExecutesNone v.frame.det (λ q. refl) (λ q. refl))
      (λ e. either ExecutesNone v.frame.x3 (λ q. refl) (λ q. either ExecutesNone (leb x3_cells (cells v.frame)) (λ q. refl) (λ q. refl)))
      refl
  negotiated_none Dont option =
      by_option (λ o. ExecutesNone (switched_off v o option)) option (λ e. either ExecutesNone v.frame.det (λ q. refl) (λ q. refl))
      (λ e. either ExecutesNone v.frame.x3 (λ q. refl) (λ q. refl)) refl

  module _ (r : Reader) (p : Pad) where
    told_none : (b : ℕ) → ExecutesNone (happening v r p (Data b))
    unfolding happening
    told_none b = either ExecutesNone (passes v.frame p r.cr b) (λ q. refl) (λ q. data_none b)

    other_events : (e : Event) → ((option : ℕ) → e ≡ End option → ⊥) → ExecutesNone (happening v r p e)
    unfolding happening
    other_events Nothing n = refl
    other_events (Data b) n = told_none b
    other_events (Negotiation verb option) n = negotiated_none verb option
    other_events (Begin option) n = refl
    other_events (Sub option b) n = refl
    other_events (End option) n = absurd (n option refl)
    other_events EndBare n = refl
    other_events Lost n = refl

    pub event_executes : EventExecutes v r p
    unfolding happening
    event_executes =
        record {
          ended = λ e. rw e;
          while_off = λ option e. rw (e, and_false (eqb option 20) false refl);
          other_option = λ option e. rw e;
          otherwise = other_events;
        }

-- ---- a call

module _ (s : State) where
  refused_none : (c : Call) → ((called s c).answer.verdict ≡ Ok tt → ⊥) → executed_by s c ≡ []
  unfolding called host_bytes unless executed_by
  refused_none (host input reply) p =
      taken_or_refused (host_refusal s reply) (λ e. absurd (p (rw e))) (λ r e. rw e)
  refused_none (key k reply) p = refl

  pub call_executes : CallExecutes s
  unfolding called host_bytes unless host_byte running executed_by executed_of
  call_executes =
      record {
        byte = λ b. refl;
        no_bytes = refl;
        more_bytes = λ b bs. refl;
        taken = λ input reply. taken_or_refused (host_refusal s reply) (λ e. rw e) (λ r e. rw e);
        a_key = λ k reply. refl;
        refused = refused_none;
        no_calls = refl;
        more_calls = λ c cs. refl;
      }

-- ---- the premise of demand 3

-- what is executed stands in the list, under the code that it came with
abbrev Found : Edition → Executed → Type 0
Found edition e = row_of edition (code_in e.held) ≡ Some e.row

module _ (v : View) (h : Held) where
  abbrev AllFound : Effect → Type 0
  AllFound e = All (Found v.frame.edition) e.executed

  found_judged : (r : Row) → row_of v.frame.edition (code_in h) ≡ Some r → (f : Result ⊤ Fault) → AllFound (judged v r h f)
  unfolding judged
  found_judged r e (Ok passed) = (e, tt)
  found_judged r e (Err OffScreen) = tt
  found_judged r e (Err NotAgreed) = tt
  found_judged r e (Err UnknownCode) = tt
  found_judged r e (Err TooManyParameters) = tt
  found_judged r e (Err TooFewParameters) = tt
  found_judged r e (Err BadValue) = tt
  found_judged r e (Err BadMap) = tt

  found_looked : (l : Option Row) → row_of v.frame.edition (code_in h) ≡ l → AllFound (looked v l h)
  unfolding looked
  found_looked None e = tt
  found_looked (Some r) e = found_judged r e _

  found_subcommand : AllFound (subcommand v h)
  unfolding subcommand
  found_subcommand = either AllFound (eqb h.count 0) (λ q. tt) (λ q. found_looked _ refl)

  module _ (r : Reader) (p : Pad) (same : r.held ≡ h) where
    found_event : (e : Event) → AllFound (happening v r p e)
    unfolding happening
    found_event Nothing = tt
    found_event (Data b) = rw (told_none v r p b) tt
    found_event (Negotiation verb option) = rw (negotiated_none v verb option) tt
    found_event (Begin option) = tt
    found_event (Sub option b) = tt
    found_event (End option) = either AllFound (eqb option det_option && v.frame.det) (λ q. rw same found_subcommand) (λ q. tt)
    found_event EndBare = tt
    found_event Lost = tt

-- under the edition of the state that it begins with
abbrev FoundFrom : State → List Executed → Type 0
FoundFrom s es = All (Found s.session.frame.edition) es

found_run : (s : State) (bs : List ℕ) → FoundFrom s (running s bs).executed
unfolding running host_byte
found_run s [] = tt
found_run s (b ∷ bs) =
    all_append (Found s.session.frame.edition) (host_byte s b).executed _ (found_event _ _ _ _ refl _)
    (rw (edition_byte s b) at (found_run (host_byte s b).state bs))

found_call : (s : State) (c : Call) → FoundFrom s (executed_by s c)
unfolding executed_by
found_call s (host input reply) = either (FoundFrom s) (is_taken (host_refusal s reply)) (λ e. found_run s _) (λ e. tt)
found_call s (key k reply) = tt

found_calls : (s : State) (cs : List Call) → FoundFrom s (executed_of s cs)
unfolding executed_of
found_calls s [] = tt
found_calls s (c ∷ cs) =
    all_append (Found s.session.frame.edition) (executed_by s c) _ (found_call s c)
    (rw (edition_kept s c) at (found_calls (left (called s c)) cs))

in_numbers : (edition : Edition) (es : List Executed) → All (Found edition) es → none_reaches es ≡ none_seven edition es
unfolding none_reaches none_seven
in_numbers edition [] p = refl
in_numbers edition (e ∷ es) p =
    ap₂ ◌&&◌ (ap not (seven edition (code_in e.held) e.row e.held p.0)) (in_numbers edition es p.1)

pub premise_in_numbers : PremiseInNumbers
premise_in_numbers s calls = in_numbers _ _ (found_calls s calls)

-- Nothing but what the documents name changes the attribute bytes, the options, suppression, the characters, the cursor, or what the PAD
-- keeps; nothing at all the edition.
use Rattle.std.proofs.Common.{◌≡◌, refl, sym, ◌∙◌, Bool, true, false, not, ◌&&◌, List, [], ◌∷◌, ◌++◌, map, ℕ, zero, suc, ◌+◌, arith, eqb-true, ltb-true, leb, ltb, eqb, if◌then◌else◌, Option, Some, None, Result, Ok, Err}
use Rattle.std.specs.Prelude.{⊤}
use borrow.Author.Tests.{not-true, eqb-false, lt-leb}
use Rattle.telnet.specs.declared.Verb.{Verb}
use Rattle.telnet.specs.declared.Verb.TheVariants.{Will, Wont, Do, Dont}
use Rattle.telnet.specs.declared.Event.{Event}
use Rattle.telnet.specs.declared.Event.TheVariants.{Nothing, Data, Negotiation, Begin, Sub, End, EndBare, Lost}
use Rattle.telnet.specs.Reader.{read_of}
use Rattle.edit.specs.declared.range.Shift.{Shift}
use Rattle.screen.specs.declared.cell.Place.{Place}
use Rattle.words.specs.Words.{between}
use Rattle.words.proofs.Laws.{either, true_or_false, not_both, and_left, and_right, and_off, in_between}
use Rattle.pad.specs.declared.message.Stage.{Stage}
use Rattle.pad.specs.declared.message.Stage.TheVariants.{Code, Parameter, Value}
use Rattle.typing.specs.declared.echo.Echo.{Echo}
use Rattle.pad.specs.Parameters.{value_of}
use Rattle.pad.specs.Line.{text_of, full}
use Rattle.pad.specs.Message.{is_set, ended}
use Rattle.typing.specs.Keys.{forwards, kind_of}
use Rattle.typing.specs.Echo.{echo_set, echoed, key_echo, plain_echo, echo_by, bytes_of, echo_of}
use Rattle.rules.specs.declared.Held.{Held}
use Rattle.rules.specs.declared.Reader.{Reader}
use Rattle.rules.specs.declared.Pad.{Pad}
use Rattle.rules.specs.declared.Command.{Command}
use Rattle.rules.specs.declared.Command.TheVariants.{Facilities, MoveCursor, SkipToLine, SkipToChar, Move, LineShift, CharShift, ReadCursor, Transmit, TransmitModified, Erase, FormatData, Repeat, SuppressProtection, Error}
use Rattle.rules.specs.declared.Maps.{Maps}
use Rattle.rules.specs.declared.Governor.{Governor}
use Rattle.rules.specs.declared.Fault.{Fault}
use Rattle.rules.specs.declared.Fault.TheVariants.{NotAgreed, UnknownCode, OffScreen, TooManyParameters, TooFewParameters, BadValue, BadMap}
use Rattle.rules.specs.declared.Key.{Key}
use Rattle.rules.specs.Session.{View, State, printable, cells, x3_cells, switched, with_x3, with_received, line_takes_keys, view_of, cursor_cell, screen_end, with_cursor, with_modes, with_frame, with_attrs}
use Rattle.rules.specs.Effect.{Effect, Executed, Change, Marking, kept, marks_after, Part, changed_all, changing, saying, quiet, writing, clearing}
use Rattle.rules.specs.Edition.{meant_by}
use Rattle.rules.specs.Facility.{agreed}
use Rattle.rules.specs.Command.{Row, rows, row_of, code_in, parameter, format_count, value_fault, fault_of}
use Rattle.rules.specs.Cursor.{cursor_guarded}
use Rattle.rules.specs.Telnet.{is_on, accepts, turned, switched_on, switched_off, negotiated, host_character, host_characters, host_data, host_text}
use Rattle.rules.specs.Pad.{empties, pad_after, takes_key, pad_typed, echoed_at, typed_to, passes}
use Rattle.rules.specs.Subcommand.{transmitted, erasure, shifting_cells, lines_guarded, suppressing, obeyed, judged, looked, subcommand}
use Rattle.rules.specs.Key.{key_of, pressed}
use Rattle.rules.specs.Operation.{happening, host_byte, applied, running, unless, host_bytes, host_refusal, press_effect, pad_pressed, one_key, key_refusal}
use Rattle.rules.specs.Call.{host, key, called}
use Rattle.rules.specs.Executed.{one_of}
use Rattle.rules.specs.Causes.{Aspect, attributes, det, x3, suppression, received, characters, marks, cursor, values, line, Same, changers, byte, execution, negotiation, keystroke, typing, may_change, command_cause, message_cause, cause_of, causes_in, key_cause, causes_of, none_changes, NothingElse, EditionKept, ReaderKept}
use Rattle.rules.proofs.Verdicts.{taken_or_refused}
use Rattle.rules.proofs.All.{All, ◌and◌, all_equal}
use Rattle.rules.proofs.Rows.{in_list, found_code}
use Rattle.rules.proofs.Options.{by_option}
-- the worked cases are checked first
use Rattle.rules.proofs.Every.{every_byte}

-- what an effect leaves as it was, where it may not change
record Leaves (may : Aspect → Bool) (v : View) (e : Effect) : Type 0 where
  the_attributes : may attributes ≡ false → e.view.attrs ≡ v.attrs
  the_det : may det ≡ false → e.view.frame.det ≡ v.frame.det
  the_x3 : may x3 ≡ false → e.view.frame.x3 ≡ v.frame.x3
  the_suppression : may suppression ≡ false → e.view.frame.suppressed ≡ v.frame.suppressed
  the_received : may received ≡ false → e.view.frame.received ≡ v.frame.received
  the_characters : may characters ≡ false → e.changes ≡ []
  the_marks : may marks ≡ false → e.marking ≡ kept
  the_cursor : may cursor ≡ false → e.view.frame.cursor ≡ v.frame.cursor
  the_edition : e.view.frame.edition ≡ v.frame.edition

-- and what is left of the PAD
record LeavesPad (may : Aspect → Bool) (p q : Pad) : Type 0 where
  the_values : may values ≡ false → q.values ≡ p.values
  the_line : may line ≡ false → q.line ≡ p.line

-- ---- the kinds of effect

-- the view afterwards, its parts as they were or such that they may change
abbrev leaving : {may : Aspect → Bool} {v w : View} {cs : List Change} {m : Marking} {ps : List Part} {es : List Executed}
    → (may attributes ≡ false → w.attrs ≡ v.attrs) → (may det ≡ false → w.frame.det ≡ v.frame.det)
    → (may x3 ≡ false → w.frame.x3 ≡ v.frame.x3)
    → (may suppression ≡ false → w.frame.suppressed ≡ v.frame.suppressed)
    → (may received ≡ false → w.frame.received ≡ v.frame.received) → (may characters ≡ false → cs ≡ [])
    → (may marks ≡ false → m ≡ kept) → (may cursor ≡ false → w.frame.cursor ≡ v.frame.cursor) → w.frame.edition ≡ v.frame.edition
    → Leaves may v (record { view = w; changes = cs; marking = m; reply = ps; executed = es })
leaving a b x c r d m e n =
    record {
      the_attributes = a;
      the_det = b;
      the_x3 = x;
      the_suppression = c;
      the_received = r;
      the_characters = d;
      the_marks = m;
      the_cursor = e;
      the_edition = n;
    }

same : {b : Bool} {A : Type 0} {x : A} → b ≡ false → x ≡ x
same e = refl

module _ {v : View} {may : Aspect → Bool} where
  -- nothing but a reply
  says : {ps : List Part} → Leaves may v (saying v ps)
  says = leaving same same same same same same same same refl

  moves : {p : Place} {ps : List Part} → may cursor ≡ true → Leaves may v (saying (with_cursor v p) ps)
  moves e = leaving same same same same same same same (not_both _ e) refl

  edits : {cs : List Change} → may characters ≡ true → Leaves may v (changing v cs)
  edits e = leaving same same same same same (not_both _ e) same same refl

  -- a shift, a typed character, 27, 35
  shifts : {c : Change} {from end : ℕ} → may characters ≡ true → may marks ≡ true → Leaves may v (writing v c from end)
  shifts e d = leaving same same same same same (not_both _ e) (not_both _ d) same refl

  types : {p : Place} {c : Change} {from end : ℕ} → may characters ≡ true → may marks ≡ true → may cursor ≡ true
      → Leaves may v (writing (with_cursor v p) c from end)
  types e d c = leaving same same same same same (not_both _ e) (not_both _ d) (not_both _ c) refl

  sends : {p : Place} {ps : List Part} → may marks ≡ true → may cursor ≡ true → Leaves may v (clearing (saying (with_cursor v p) ps))
  sends e d = leaving same same same same same same (not_both _ e) (not_both _ d) refl

  blanks : {p : Place} {cs : List Change} → may characters ≡ true → may marks ≡ true → may cursor ≡ true
      → Leaves may v (clearing (changing (with_cursor v p) cs))
  blanks e d c = leaving same same same same same (not_both _ e) (not_both _ d) (not_both _ c) refl

  writes : {p : Place} {cs : List Change} → may characters ≡ true → may cursor ≡ true → Leaves may v (changing (with_cursor v p) cs)
  writes e d = leaving same same same same same (not_both _ e) same (not_both _ d) refl

  formats : {attrs : List ℕ} → may attributes ≡ true → Leaves may v (quiet (with_attrs v attrs))
  formats e = leaving (not_both _ e) same same same same same same same refl

  -- suppression, DET, the maps received, or all of them; option 30
  suppresses : {off : Bool} {ps : List Part} → may suppression ≡ true → Leaves may v (saying (with_modes v v.frame.det off) ps)
  suppresses e = leaving same same same (not_both _ e) same same same same refl

  switches : {on : Bool} {ps : List Part} → may det ≡ true → Leaves may v (saying (with_modes v on v.frame.suppressed) ps)
  switches e = leaving same (not_both _ e) same same same same same same refl

  asks : {m : Maps} {ps : List Part} → may received ≡ true → Leaves may v (saying (with_frame v (with_received v.frame m)) ps)
  asks e = leaving same same same same (not_both _ e) same same same refl

  resets : {on off : Bool} {m : Maps} {ps : List Part} → may det ≡ true → may suppression ≡ true → may received ≡ true
      → Leaves may v (saying (with_frame v (with_received (switched v.frame on off) m)) ps)
  resets e d c = leaving same (not_both _ e) same (not_both _ d) (not_both _ c) same same same refl

  turns : {on : Bool} {ps : List Part} → may x3 ≡ true → Leaves may v (saying (with_frame v (with_x3 v.frame on)) ps)
  turns e = leaving same same (not_both _ e) same same same same same refl

  -- 29: a blank screen
  clears : {p : Place} {attrs : List ℕ} {cs : List Change} → may attributes ≡ true → may characters ≡ true → may marks ≡ true
      → may cursor ≡ true → Leaves may v (clearing (changing (with_attrs (with_cursor v p) attrs) cs))
  clears e d m c = leaving (not_both _ e) same same same same (not_both _ d) (not_both _ m) (not_both _ c) refl

-- a shift, unless something is guarded
shifts_unless : {may : Aspect → Bool} (v : View) (guarded : Bool) (s : Shift) (from end by : ℕ) → may characters ≡ true
    → may marks ≡ true
    → Leaves may v (if guarded then quiet v else shifting_cells v s from end by)
shifts_unless {may} v guarded s from end by e d = either (Leaves may v) guarded (λ g. says) (λ g. shifts e d)

-- a code that is neither SET nor RESPONSE-SET
not_set : (code : ℕ) → one_of (0 ∷ 1 ∷ []) code ≡ false → is_set code ≡ false
unfolding one_of
not_set code h =
    true_or_false (eqb code 0) (λ e. not_both _ (rw e) h)
    (λ e. true_or_false (eqb code 1) (λ f. not_both _ (rw (e, f)) h)
    (λ f. lt-leb code 1 (omega (arith, eqb-false code 0 e, eqb-false code 1 f))))

-- ---- characters from the host

module _ {may : Aspect → Bool} (e : may characters ≡ true) (d : may cursor ≡ true) where
  leaves_character : (v : View) (c : ℕ) → Leaves may v (host_character v c)
  unfolding host_character
  leaves_character v c = either (Leaves may v) (cursor_guarded v) (λ g. says) (λ g. writes e d)

  -- one effect after another, of those that may change both
  leaves_then : {v : View} (one rest : Effect) {ps : List Part} {es : List Executed} → Leaves may v one → Leaves may one.view rest
      → Leaves may v (record { view = rest.view; changes = one.changes ++ rest.changes; marking = kept; reply = ps; executed = es })
  leaves_then one rest a b =
      leaving (λ h. b.the_attributes h ∙ a.the_attributes h) (λ h. b.the_det h ∙ a.the_det h) (λ h. b.the_x3 h ∙ a.the_x3 h)
      (λ h. b.the_suppression h ∙ a.the_suppression h) (λ h. b.the_received h ∙ a.the_received h) (not_both _ e) same
      (not_both _ d) (b.the_edition ∙ a.the_edition)

  leaves_characters : (n : ℕ) (v : View) (c : ℕ) → Leaves may v (host_characters n v c)
  unfolding host_characters
  leaves_characters zero v c = says
  leaves_characters (suc n) v c = leaves_then (host_character v c) _ (leaves_character v c) (leaves_characters n (host_character v c).view c)

  leaves_any : (v : View) (b : ℕ) → Leaves may v (host_data v b)
  unfolding host_data
  leaves_any v b =
      either (Leaves may v) (printable b) (λ q. leaves_character v b)
      (λ q. either (Leaves may v) (eqb b 13) (λ q. moves d)
      (λ q. either (Leaves may v) (eqb b 10) (λ q. moves d) (λ q. either (Leaves may v) (eqb b 8) (λ q. moves d) (λ q. says))))

  leaves_text : (bs : List ℕ) (v : View) → Leaves may v (host_text v bs)
  unfolding host_text
  leaves_text [] v = says
  leaves_text (b ∷ bs) v = leaves_then (host_data v b) _ (leaves_any v b) (leaves_text bs (host_data v b).view)

-- ---- a subcommand

-- OffScreen is drawn by 5 alone
is_move : Command → Bool
is_move MoveCursor = true
is_move (Facilities f) = false
is_move SkipToLine = false
is_move SkipToChar = false
is_move (Move to) = false
is_move (LineShift s) = false
is_move (CharShift s) = false
is_move ReadCursor = false
is_move (Transmit area) = false
is_move TransmitModified = false
is_move (Erase area) = false
is_move FormatData = false
is_move Repeat = false
is_move SuppressProtection = false
is_move Error = false

moves_5 : map (λ r. is_move r.command) rows ≡ map (λ r. eqb r.code 5) rows
unfolding rows is_move
moves_5 = refl

module _ (v : View) (h : Held) where
  abbrev Limits : Command → Result ⊤ Fault → Type 0
  Limits c f = f ≡ Err OffScreen → is_move c ≡ true

  limits_value : (c : Command) → Limits c (value_fault v c h)
  unfolding value_fault is_move
  limits_value MoveCursor = λ e. refl
  limits_value (Facilities f) = λ e. cc
  limits_value SkipToLine = λ e. cc
  limits_value SkipToChar = λ e. cc
  limits_value (Move to) = λ e. cc
  limits_value (LineShift s) = λ e. cc
  limits_value (CharShift s) = λ e. cc
  limits_value ReadCursor = λ e. cc
  limits_value (Transmit area) = λ e. cc
  limits_value TransmitModified = λ e. cc
  limits_value (Erase area) = λ e. cc
  limits_value FormatData =
      either (Limits FormatData) (not (leb (parameter h 0) 31 && eqb (parameter h 1) 0)) (λ q e. cc)
      (λ q. either (Limits FormatData) (leb (cursor_cell v + format_count h) (screen_end v)) (λ q e. cc) (λ q e. cc))
  limits_value Repeat = either (Limits Repeat) (printable (parameter h 1)) (λ q e. cc) (λ q e. cc)
  limits_value SuppressProtection = either (Limits SuppressProtection) (between 251 254 (parameter h 0)) (λ q e. cc) (λ q e. cc)
  limits_value Error = λ e. cc

  limits : (c : Command) (n : ℕ) (g : Option Governor) → Limits c (fault_of v c n g h)
  unfolding fault_of
  limits c n g =
      either (Limits c) (not (agreed v.frame.edition v.frame.received g)) (λ q e. cc)
      (λ q. either (Limits c) (ltb h.count (n + 1)) (λ q e. cc)
      (λ q. either (Limits c) (ltb (n + 1) h.count) (λ q e. cc) (λ q. limits_value c)))

  leaves_suppressing : {may : Aspect → Bool} → may suppression ≡ true → (p : ℕ) → Leaves may v (suppressing v p)
  unfolding suppressing
  leaves_suppressing {may} e p =
      either (Leaves may v) (eqb p 253) (λ q. suppresses e)
      (λ q. either (Leaves may v) (eqb p 254) (λ q. suppresses e)
      (λ q. either (Leaves may v) (eqb p 251) (λ q. says) (λ q. says)))

  -- a row of the list, executed
  abbrev LeavesRow : Row → Type 0
  LeavesRow r = Leaves (λ a. may_change a (execution r.code)) v (obeyed v r.command h)

  leaves_rows : All LeavesRow rows
  unfolding rows obeyed transmitted erasure may_change changers one_of
  leaves_rows =
      -- 1 to 5
      asks refl and asks refl and asks refl and asks refl and moves refl
      -- 6 to 12
      and moves refl and moves refl and moves refl and moves refl and moves refl and moves refl and moves refl
      -- 13 to 16, 17, 19
      and shifts_unless v (lines_guarded v) _ _ _ _ refl refl and shifts_unless v (lines_guarded v) _ _ _ _ refl refl
      and shifts_unless v (cursor_guarded v) _ _ _ _ refl refl and shifts_unless v (cursor_guarded v) _ _ _ _ refl refl and says and moves refl
      -- 20 to 27
      and moves refl and moves refl and moves refl and says and says and says and says and sends refl refl
      -- 29 to 35
      and clears refl refl refl refl and edits refl and edits refl and edits refl and edits refl and edits refl and blanks refl refl refl
      -- 36, 37, 38, 41
      and formats refl and leaves_characters refl refl _ v _ and leaves_suppressing refl _ and says and tt

  -- what was obeyed, by what was executed
  abbrev LeavesCommand : Effect → Type 0
  LeavesCommand e = Leaves (λ a. may_change a (command_cause v.frame.edition h e.executed)) v e

  leaves_judged : (r : Row) → LeavesRow r → (f : Result ⊤ Fault) → (f ≡ Err OffScreen → eqb (meant_by v.frame.edition (code_in h)) 5 ≡ true)
      → LeavesCommand (judged v r h f)
  unfolding judged command_cause may_change changers one_of
  leaves_judged r k (Ok passed) l = leaving k.the_attributes k.the_det k.the_x3 k.the_suppression k.the_received k.the_characters k.the_marks k.the_cursor k.the_edition
  leaves_judged r k (Err OffScreen) l = moves (rw (l refl))
  leaves_judged r k (Err NotAgreed) l = says
  leaves_judged r k (Err UnknownCode) l = says
  leaves_judged r k (Err TooManyParameters) l = says
  leaves_judged r k (Err TooFewParameters) l = says
  leaves_judged r k (Err BadValue) l = says
  leaves_judged r k (Err BadMap) l = says

  leaves_looked : (l : Option Row) → row_of v.frame.edition (code_in h) ≡ l → LeavesCommand (looked v l h)
  unfolding looked
  leaves_looked None e = says
  leaves_looked (Some r) e =
      let edition = v.frame.edition in
      let row = in_list LeavesRow leaves_rows edition (code_in h) in
      let five = in_list (λ r. is_move r.command ≡ eqb r.code 5) (all_equal _ _ rows moves_5) edition (code_in h) in
      leaves_judged r (rw e at row) _
      (λ f. rw (← found_code edition (code_in h) r e) (sym (rw e at five) ∙ limits r.command r.parameters r.governor f))

  leaves_subcommand : LeavesCommand (subcommand v h)
  unfolding subcommand
  leaves_subcommand = either LeavesCommand (eqb h.count 0) (λ q. says) (λ q. leaves_looked _ refl)

-- ---- what the reader told

module _ (v : View) where
  leaves_data : (b : ℕ) → Leaves (λ a. may_change a (byte b)) v (host_data v b)
  unfolding host_data may_change changers one_of
  leaves_data b =
      let L : Effect → Type 0 = Leaves (λ a. may_change a (byte b)) v in
      either L (printable b) (λ q. leaves_character (rw q) (rw q) v b)
      (λ q. either L (eqb b 13) (λ e. moves (rw (q, e)))
      (λ e. either L (eqb b 10) (λ f. moves (rw (q, e, f))) (λ f. either L (eqb b 8) (λ g. moves (rw (q, e, f, g))) (λ g. says))))

  leaves_negotiated : (verb : Verb) (option : ℕ) → Leaves (λ a. may_change a (negotiation verb option)) v (negotiated v verb option)
  unfolding negotiated switched_on switched_off is_on accepts turned may_change changers one_of
  leaves_negotiated Will option = says
  leaves_negotiated Wont option = says
  leaves_negotiated Do option =
      let L : Effect → Type 0 = Leaves (λ a. may_change a (negotiation Do option)) v in
      by_option (λ o. L (switched_on v o option)) option
      (λ e. either L v.frame.det (λ q. says) (λ q. switches (rw e)))
      (λ e. either L v.frame.x3 (λ q. says) (λ q. either L (leb x3_cells (cells v.frame)) (λ q. turns (rw e)) (λ q. says)))
      says
  leaves_negotiated Dont option =
      let L : Effect → Type 0 = Leaves (λ a. may_change a (negotiation Dont option)) v in
      by_option (λ o. L (switched_off v o option)) option
      (λ e. either L v.frame.det (λ q. resets (rw e) (rw e) (rw e)) (λ q. says))
      (λ e. either L v.frame.x3 (λ q. turns (rw e)) (λ q. says))
      says

  module _ (r : Reader) (p : Pad) where
    leaves_event : (e : Event) → Leaves (λ a. may_change a (cause_of v r p e)) v (happening v r p e)
    unfolding happening cause_of
    leaves_event Nothing = says
    leaves_event (Data b) =
        either (Leaves (λ a. may_change a (byte b)) v) (passes v.frame p r.cr b) (λ q. says) (λ q. leaves_data b)
    leaves_event (Negotiation verb option) = leaves_negotiated verb option
    leaves_event (Begin option) = says
    leaves_event (Sub option b) = says
    leaves_event (End option) =
        true_or_false (eqb option 20 && v.frame.det) (λ q. rw q (leaves_subcommand v r.held)) (λ q. rw q says)
    leaves_event EndBare = says
    leaves_event Lost = says

    -- ---- the PAD

    pad_emptied : (verb : Verb) (option : ℕ) → may_change line (negotiation verb option) ≡ false
        → (pad_after v.frame p (Negotiation verb option)).line ≡ p.line
    unfolding pad_after empties may_change changers one_of
    pad_emptied Dont option h =
        either (λ l. l ≡ p.line) (eqb option 30 && v.frame.x3) (λ q. not_both _ (rw (and_left (eqb option 30) _ q)) h) (λ q. refl)
    pad_emptied Do option h = refl
    pad_emptied Will option h = refl
    pad_emptied Wont option h = refl

    -- a message that comes into force is a SET or a RESPONSE-SET
    pad_kept : (option : ℕ) → may_change values (cause_of v r p (End option)) ≡ false → (pad_after v.frame p (End option)).values ≡ p.values
    unfolding pad_after cause_of ended may_change changers one_of message_cause
    pad_kept option =
        true_or_false (eqb option 20 && v.frame.det)
        (λ q h. rw (eqb-true option 20 (and_left (eqb option 20) _ q)))
        (λ q. true_or_false (eqb option 30 && v.frame.x3) (λ c. rw (q, c) (by_stage p.message.stage refl)) (λ c h. rw c))
      where
        by_stage : (at : Stage) → p.message.stage ≡ at → may_change values (message_cause at) ≡ false → (ended p.values p.message).values ≡ p.values
        by_stage Code e h = rw e
        by_stage (Parameter code) e h = rw (e, not_set code h)
        by_stage (Value code parameter) e h = rw e

    leaves_pad : (e : Event) → LeavesPad (λ a. may_change a (cause_of v r p e)) p (pad_after v.frame p e)
    unfolding pad_after cause_of
    leaves_pad Nothing = record { the_values = same; the_line = same }
    leaves_pad (Data b) = record { the_values = same; the_line = same }
    leaves_pad (Negotiation verb option) = record { the_values = same; the_line = pad_emptied verb option }
    leaves_pad (Begin option) = record { the_values = same; the_line = same }
    leaves_pad (Sub option b) = record { the_values = same; the_line = same }
    leaves_pad (End option) = record { the_values = pad_kept option; the_line = same }
    leaves_pad EndBare = record { the_values = same; the_line = same }
    leaves_pad Lost = record { the_values = same; the_line = same }

  -- ---- a key

  leaves_meaning : (k : ℕ) → Leaves (λ a. may_change a (keystroke k)) v (pressed v (key_of k))
  unfolding key_of pressed transmitted may_change changers one_of
  leaves_meaning k =
      let L : Key → Type 0 = λ key. Leaves (λ a. may_change a (keystroke k)) v (pressed v key) in
      either L (printable k) (λ q. types (rw q) (rw q) (rw q))
      (λ q. either L (eqb k 8) (λ e. moves (rw (q, e)))
      (λ e. either L (eqb k 9) (λ f. moves (rw (q, e, f)))
      (λ f. either L (eqb k 13) (λ g. moves (rw (q, e, f, g)))
      (λ g. either L (eqb k 127) (λ i. shifts_unless v (cursor_guarded v) _ _ _ _ (rw (q, i)) (rw (q, i))) (λ i. either L (between 128 143 k) (λ j. says) (λ j. says))))))

  -- 0 is no edit key, and its echo is no character
  zero_echo : (p : Pad) → host_text v (echoed_at p 0) ≡ quiet v
  unfolding echo_of echo_by kind_of plain_echo key_echo bytes_of host_text host_data
  zero_echo p =
      let vs = p.values in
      let text = text_of p.line in
      let E : Echo → Type 0 = λ e. host_text v (bytes_of e text) ≡ quiet v in
      let echo : E (key_echo vs 0) = either E (not (echoed vs (echo_set 0))) (λ q. refl) (λ q. refl) in
      rw (and_off (eqb (value_of vs 15) 1))
      (either (λ kind. E (echo_by kind vs text 0)) (forwards vs 0) (λ q. echo) (λ q. either E (full text) (λ q. refl) (λ q. echo)))

  leaves_typed : (p : Pad) (k : ℕ) → ltb k 128 ≡ true → Leaves (λ a. may_change a (typing k)) v (typed_to v p k)
  unfolding typed_to may_change changers
  leaves_typed p k h =
      true_or_false (eqb k 0)
      (λ e. rw (eqb-true k 0 e, zero_echo p) says)
      (λ e.
      let some : between 1 127 k ≡ true = in_between 1 127 k (omega (arith, eqb-false k 0 e)) (omega (arith, ltb-true k 128 h)) in
      let text = leaves_text {may = λ a. may_change a (typing k)} some some (echoed_at p k) v in
      leaving text.the_attributes text.the_det text.the_x3 text.the_suppression text.the_received text.the_characters
      text.the_marks text.the_cursor text.the_edition)

leaves_key : (s : State) (k : ℕ) → Leaves (λ a. may_change a (key_cause s.session.frame k)) (view_of s) (press_effect s k)
unfolding key_cause
leaves_key s k =
    let f = s.session.frame in
    true_or_false (takes_key f k) (λ e. rw e (leaves_typed (view_of s) s.session.pad k (and_right (line_takes_keys f) _ e)))
    (λ e. rw e (leaves_meaning (view_of s) k))

key_pad : (s : State) (k : ℕ) → LeavesPad (λ a. may_change a (key_cause s.session.frame k)) s.session.pad (pad_pressed s k)
unfolding key_cause pad_typed may_change changers
key_pad s k =
    let f = s.session.frame in
    true_or_false (takes_key f k)
    (λ e.
    let typed : between 0 127 k ≡ true = in_between 0 127 k (omega arith) (omega (arith, ltb-true k 128 (and_right (line_takes_keys f) _ e))) in
    rw e (record { the_values = same; the_line = not_both _ typed }))
    (λ e. rw e (record { the_values = same; the_line = same }))

-- ---- from an effect to a call

same_applied : (a : Aspect) {may : Aspect → Bool} (s : State) (r : Reader) (p : Pad) (e : Effect) → may a ≡ false → Leaves may (view_of s) e
    → LeavesPad may s.session.pad p → Same a s (applied s r p e).state
unfolding changed_all marks_after
same_applied attributes s r p e h k l = k.the_attributes h
same_applied det s r p e h k l = k.the_det h
same_applied x3 s r p e h k l = k.the_x3 h
same_applied suppression s r p e h k l = k.the_suppression h
same_applied received s r p e h k l = k.the_received h
same_applied characters s r p e h k l = rw (k.the_characters h)
same_applied marks s r p e h k l = rw (k.the_marks h)
same_applied cursor s r p e h k l = k.the_cursor h
same_applied values s r p e h k l = l.the_values h
same_applied line s r p e h k l = l.the_line h

-- nothing changed, and one change after the other
same_refl : (a : Aspect) (s : State) → Same a s s
same_refl attributes s = refl
same_refl det s = refl
same_refl x3 s = refl
same_refl suppression s = refl
same_refl received s = refl
same_refl characters s = refl
same_refl marks s = refl
same_refl cursor s = refl
same_refl values s = refl
same_refl line s = refl

same_then : (a : Aspect) (s t u : State) → Same a s t → Same a t u → Same a s u
same_then attributes s t u p q = q ∙ p
same_then det s t u p q = q ∙ p
same_then x3 s t u p q = q ∙ p
same_then suppression s t u p q = q ∙ p
same_then received s t u p q = q ∙ p
same_then characters s t u p q = q ∙ p
same_then marks s t u p q = q ∙ p
same_then cursor s t u p q = q ∙ p
same_then values s t u p q = q ∙ p
same_then line s t u p q = q ∙ p

same_run : (a : Aspect) (s : State) (bs : List ℕ) → none_changes a (causes_in s bs) ≡ true → Same a s (running s bs).state
unfolding running host_byte causes_in none_changes
same_run a s [] n = same_refl a s
same_run a s (b ∷ bs) n =
    let r = s.session.reader in
    let p = s.session.pad in
    let may = may_change a (cause_of (view_of s) r p (read_of r.phase b).event) in
    same_then a s (host_byte s b).state _
    (same_applied a s _ _ _ (not-true _ (and_left (not may) _ n)) (leaves_event (view_of s) r p _) (leaves_pad (view_of s) r p _))
    (same_run a (host_byte s b).state bs (and_right (not may) _ n))

pub nothing_else : NothingElse
unfolding called host_bytes one_key unless causes_of none_changes
nothing_else a s (host input reply) =
    taken_or_refused (host_refusal s reply) (λ e. rw e (λ n. same_run a s _ n)) (λ r e. rw e (λ n. same_refl a s))
nothing_else a s (key k reply) =
    let may = may_change a (key_cause s.session.frame k) in
    taken_or_refused (key_refusal s reply k)
    (λ e. rw e
    (λ n. same_applied a s _ _ _ (not-true _ (and_left (not may) _ n)) (leaves_key s k) (key_pad s k)))
    (λ r e. rw e (λ n. same_refl a s))

-- the edition
pub edition_byte : (s : State) (b : ℕ) → (host_byte s b).state.session.frame.edition ≡ s.session.frame.edition
unfolding host_byte
edition_byte s b = (leaves_event (view_of s) _ _ _).the_edition

edition_run : (s : State) (bs : List ℕ) → (running s bs).state.session.frame.edition ≡ s.session.frame.edition
unfolding running
edition_run s [] = refl
edition_run s (b ∷ bs) = edition_run (host_byte s b).state bs ∙ edition_byte s b

pub edition_kept : EditionKept
unfolding called host_bytes one_key unless
edition_kept s (host input reply) = taken_or_refused (host_refusal s reply) (λ e. rw e (edition_run s _)) (λ r e. rw e)
edition_kept s (key k reply) =
    taken_or_refused (key_refusal s reply k) (λ e. rw e (leaves_key s k).the_edition) (λ r e. rw e)

pub reader_kept : ReaderKept
unfolding called one_key unless
reader_kept s k reply = taken_or_refused (key_refusal s reply k) (λ e. rw e) (λ r e. rw e)

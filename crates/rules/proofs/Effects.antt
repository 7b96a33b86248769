-- What every effect keeps: the size of the screen, the cursor on it, printable characters, a reply within the room.
use Rattle.std.proofs.Common.{◌≡◌, refl, Bool, true, false, ◌&&◌, List, [], ◌∷◌, ℕ, zero, suc, ◌*◌, ◌≤◌, ◌<◌, arith, leb-true, leb, eqb, length, if◌then◌else◌, Option, Some, None, Result, Ok, Err}
use Rattle.std.specs.Prelude.{⊤}
use lib.ListN.{length-replicate}
use Rattle.telnet.specs.declared.Verb.{Verb}
use Rattle.telnet.specs.declared.Verb.TheVariants.{Will, Wont, Do, Dont}
use Rattle.telnet.specs.declared.Event.{Event}
use Rattle.telnet.specs.declared.Event.TheVariants.{Nothing, Data, Negotiation, Begin, Sub, End, EndBare, Lost}
use Rattle.telnet.specs.Reader.{verb_code}
use Rattle.telnet.specs.Writer.{doubled, subnegotiation, negotiation}
use Rattle.edit.specs.declared.range.Shift.{Shift}
use Rattle.edit.specs.declared.range.Shift.TheVariants.{Deletion}
use Rattle.screen.specs.declared.cell.Place.{Place}
use Rattle.words.specs.Words.{between}
use Rattle.screen.specs.Cells.{place_of}
use Rattle.words.proofs.Laws.{either, not_both, and_left, and_right}
use Rattle.edit.proofs.EditLaws.{filled_length}
use Rattle.pad.specs.Message.{ended}
use Rattle.rules.specs.declared.Held.{Held}
use Rattle.rules.specs.declared.Reader.{Reader}
use Rattle.rules.specs.declared.Pad.{Pad}
use Rattle.rules.specs.declared.Facility.{Facility}
use Rattle.rules.specs.declared.Facility.TheVariants.{Editing, Erasing, Transmitting, Formatting}
use Rattle.rules.specs.declared.Destination.TheVariants.{Down, Left, Corner, LineStart, NextLine, NextCell, FirstField, NextField, NextOpen, PreviousOpen}
use Rattle.rules.specs.declared.Area.{Area}
use Rattle.rules.specs.declared.Area.TheVariants.{WholeScreen, Unprotected, WholeLine, WholeField, RestOfScreen, RestOfLine, RestOfField}
use Rattle.rules.specs.declared.Command.{Command}
use Rattle.rules.specs.declared.Command.TheVariants.{Facilities, MoveCursor, SkipToLine, SkipToChar, Move, LineShift, CharShift, ReadCursor, Transmit, TransmitModified, Erase, FormatData, Repeat, SuppressProtection, Error}
use Rattle.rules.specs.declared.Fault.{Fault}
use Rattle.rules.specs.declared.Maps.{Maps}
use Rattle.rules.specs.declared.Fault.TheVariants.{NotAgreed, UnknownCode, OffScreen, TooManyParameters, TooFewParameters, BadValue, BadMap}
use Rattle.rules.specs.declared.Key.{Key}
use Rattle.rules.specs.declared.Key.TheVariants.{Typed, Back, Tab, Send, Delete, Function, Meaningless}
use Rattle.rules.specs.Session.{View, State, printable, cells, x3_cells, with_received, line_takes_keys, view_of, with_frame}
use Rattle.rules.specs.Effect.{Effect, Change, Marking, Part, bytes, text, changed_all, message, saying, quiet}
use Rattle.rules.specs.Number.{det_option, data_transmit, cursor_position, suppress_protection, fn, error}
use Rattle.rules.specs.Edition.{code_for}
use Rattle.rules.specs.Facility.{own_map}
use Rattle.rules.specs.Cursor.{cursor_guarded}
use Rattle.rules.specs.Telnet.{is_on, accepts, turned, switched_on, switched_off, negotiated, host_character, host_characters, host_data, host_text}
use Rattle.rules.specs.Pad.{is_x3, counts, response, takes_key, echoed_at, typed_to, passes}
use Rattle.rules.specs.Command.{Row, parameter, place_in, value_fault, fault_of}
use Rattle.rules.specs.Subcommand.{preface_bytes, preface, unless_guarded, field_from, transmitted, transmitted_modified, erasure, shifting_cells, lines_guarded, suppressing, obeyed, judged, looked, subcommand}
use Rattle.rules.specs.Key.{key_of, pressed}
use Rattle.rules.specs.Operation.{happening, press_effect}
use Rattle.rules.proofs.Characters.{Text, Fine, text_changed, changed_append}
use Rattle.rules.proofs.Errors.{no_fault}
use Rattle.rules.proofs.Options.{by_option}
use Rattle.rules.proofs.Pads.{SoundPad, sent_most}
use Rattle.rules.proofs.Editions.{not_iac}
use Rattle.rules.proofs.Replies.{InRoom, Follows, format_message, fits_nothing, fits_bytes, fits_within, fits_prefaced, place_message, error_message, byte_message, response_message, one_text, no_text, fields_text, modified_text}
use Rattle.rules.proofs.Views.{On, SoundView, at_place, switched, asked, turned_x3, attributed, limited_on, skipped_line_on, skipped_char_on, place_on, some, field_lt, cursor_lt, destination_on, goes}

-- what an effect keeps on a screen m cells wide and n lines high
pub record Keeps (m n : ℕ) (e : Effect) : Type 0 where
  pub view : SoundView m n e.view
  pub changes : (attrs chars : List ℕ) → Text (n * m) chars → Text (n * m) (changed_all chars attrs e.changes)
  pub reply : InRoom m n e.reply
  pub executed : length e.executed ≤ 1

-- ---- the kinds of effect

module _ {m n : ℕ} {v : View} (k : SoundView m n v) where
  cells_some : 0 < n * m
  cells_some = omega (arith, some k, k.attrs)

  says : (ps : List Part) → InRoom m n ps → Keeps m n (saying v ps)
  unfolding changed_all
  says ps f = record { view = k; changes = λ attrs chars t. t; reply = f; executed = omega arith }

  quietly : Keeps m n (quiet v)
  quietly = says [] (fits_nothing m n)

  tells : (bs : List ℕ) → length bs ≤ 9 → Keeps m n (saying v (bytes bs ∷ []))
  tells bs l = says _ (fits_bytes m n cells_some bs l)

  -- one change, whatever becomes of the marks
  changes : (c : Change) → Fine c → {m' : Marking}
      → Keeps m n (record { view = v; changes = c ∷ []; marking = m'; reply = []; executed = [] })
  unfolding changed_all
  changes c f =
      record { view = k; changes = λ attrs chars t. text_changed chars attrs c f t; reply = fits_nothing m n; executed = omega arith }

  place_long : (command : ℕ) → command < 255 → (p : Place) → On m n p
      → length (subnegotiation det_option (code_for v.frame.edition command ∷ p.x.0 ∷ p.y.0 ∷ [])) ≡ 8
  place_long command l p h = place_message _ p.x.0 p.y.0 (not_iac _ command l) (omega arith) (omega arith)

  errs : (code number : ℕ) → eqb number 255 ≡ false
      → Keeps m n (saying v (message (code_for v.frame.edition error ∷ code ∷ number ∷ []) ∷ []))
  errs code number e = tells _ (error_message _ code number (not_iac _ error (omega arith)) e)

answers : {m n : ℕ} {w : View} (b : Bool) {ps qs : List Part} → Keeps m n (saying w ps) → Keeps m n (saying w qs)
    → Keeps m n (saying w (if b then ps else qs))
answers true p q = p
answers false p q = q

-- ---- host data and negotiation

module _ {m n : ℕ} {v : View} (k : SoundView m n v) where
  keeps_character : (c : ℕ) → printable c ≡ true → Keeps m n (host_character v c)
  unfolding host_character
  keeps_character c p = either (Keeps m n) (cursor_guarded v) (λ g. quietly k) (λ g. changes (goes k NextCell) _ p)

  keeps_data : (b : ℕ) → Keeps m n (host_data v b)
  unfolding host_data
  keeps_data b =
      either (Keeps m n) (printable b) (keeps_character b)
      (λ p. either (Keeps m n) (eqb b 13) (λ q. quietly (goes k LineStart))
      (λ q. either (Keeps m n) (eqb b 10) (λ q. quietly (goes k Down))
      (λ q. either (Keeps m n) (eqb b 8) (λ q. quietly (goes k Left)) (λ q. quietly k))))

  -- the cells of the frame
  enough : leb x3_cells (cells v.frame) ≡ true → x3_cells ≤ n * m
  enough e = rw (k.sizes.width, k.sizes.height) at (leb-true x3_cells (cells v.frame) e)

  keeps_negotiated : (verb : Verb) (option : ℕ) → Keeps m n (negotiated v verb option)
  unfolding negotiated switched_on switched_off is_on accepts turned negotiation
  keeps_negotiated Do option =
      by_option (λ o. Keeps m n (switched_on v o option)) option
      (λ q. either (Keeps m n) v.frame.det (λ q. quietly k) (λ q. tells (switched k _ _) _ (omega arith)))
      (λ q. either (Keeps m n) v.frame.x3 (λ q. quietly k)
      (λ q. either (Keeps m n) (leb x3_cells (cells v.frame)) (λ e. tells (turned_x3 k true (λ t. enough e)) _ (omega arith))
      (λ q. tells k _ (omega arith))))
      (tells k _ (omega arith))
  keeps_negotiated Dont option =
      by_option (λ o. Keeps m n (switched_off v o option)) option
      (λ q. either (Keeps m n) v.frame.det (λ q. tells (asked (switched k _ _) _) _ (omega arith)) (λ q. quietly k))
      (λ q. either (Keeps m n) v.frame.x3 (λ q. tells (turned_x3 k false (λ t. not_both false t refl)) _ (omega arith)) (λ q. quietly k))
      (quietly k)
  keeps_negotiated Will option = tells k _ (omega arith)
  keeps_negotiated Wont option = quietly k

keeps_characters : (j : ℕ) {m n : ℕ} {v : View} → SoundView m n v → (c : ℕ) → printable c ≡ true
    → Keeps m n (host_characters j v c)
unfolding host_characters
keeps_characters zero k c p = quietly k
keeps_characters (suc j) {m} {n} k c p =
    let one = keeps_character k c p in
    let rest = keeps_characters j one.view c p in
    record {
      view = rest.view;
      changes = λ attrs chars t. rw changed_append (rest.changes attrs _ (one.changes attrs chars t));
      reply = fits_nothing m n;
      executed = omega arith;
    }

keeps_text : (bs : List ℕ) {m n : ℕ} {v : View} → SoundView m n v → Keeps m n (host_text v bs)
unfolding host_text
keeps_text [] k = quietly k
keeps_text (b ∷ bs) {m} {n} k =
    let one = keeps_data k b in
    let rest = keeps_text bs one.view in
    record {
      view = rest.view;
      changes = λ attrs chars t. rw changed_append (rest.changes attrs _ (one.changes attrs chars t));
      reply = fits_nothing m n;
      executed = omega arith;
    }

-- ---- subcommands

abbrev bad_unless : Bool → Result ⊤ Fault
bad_unless b = if b then Ok tt else Err BadValue

chosen : (b : Bool) → bad_unless b ≡ Ok tt → b ≡ true
chosen true e = refl
chosen false e = cc

module _ {m n : ℕ} {v : View} (k : SoundView m n v) where
  -- a transmission, which leaves another view
  sends : {w : View} → SoundView m n w → (p : Place) → On m n p → (ps : List Part) → Follows (n * m) ps
      → Keeps m n (saying w (preface v p ∷ ps))
  sends f p h ps g = says f _ (fits_prefaced m n _ ps (place_long k data_transmit (omega arith) p h) g)

  a_text : (from end : ℕ) → Follows (n * m) (text from end ∷ [])
  a_text = one_text (cells_some k)

  open_text : (from end : ℕ) → Follows (n * m) (unless_guarded v (text from end))
  open_text from end = either (Follows (n * m)) (cursor_guarded v) (λ g. no_text (cells_some k)) (λ g. a_text from end)

  sends_field : (from : ℕ) → On m n (place_of v.frame.width from) → Keeps m n (field_from v from)
  sends_field from h = sends k _ (either (On m n) (cursor_guarded v) (λ g. k.cursor) (λ g. h)) _ (open_text _ _)

  keeps_transmitted : (a : Area) → Keeps m n (transmitted v a)
  unfolding transmitted
  keeps_transmitted WholeScreen = sends (goes k Corner) _ (destination_on k Corner) _ (a_text _ _)
  keeps_transmitted Unprotected =
      sends (goes k FirstField) _ (destination_on k FirstField) _ (rw (← k.attrs) (fields_text v.frame.edition v.attrs (some k)))
  keeps_transmitted WholeLine = sends (goes k NextLine) _ (destination_on k LineStart) _ (a_text _ _)
  keeps_transmitted RestOfScreen = sends k _ k.cursor _ (a_text _ _)
  keeps_transmitted RestOfLine = sends k _ k.cursor _ (a_text _ _)
  keeps_transmitted WholeField = sends_field _ (place_on k _ (field_lt k))
  keeps_transmitted RestOfField = sends_field _ (place_on k _ (cursor_lt k))

  -- 27
  place_bytes : (j : ℕ) → j < length v.attrs → length (preface_bytes v.frame.edition (place_of v.frame.width j)) ≡ 8
  place_bytes j h = place_long k data_transmit (omega arith) _ (place_on k j h)

  keeps_modified : Keeps m n (transmitted_modified v)
  unfolding changed_all
  keeps_modified =
      record {
        view = goes k FirstField;
        changes = λ attrs chars t. t;
        reply = modified_text m n v.frame.edition v.attrs v.frame.width k.attrs place_bytes;
        executed = omega arith;
      }

  keeps_erasure : (a : Area) → Keeps m n (erasure v a)
  unfolding erasure
  keeps_erasure WholeScreen = changes (attributed (goes k Corner) _ (length-replicate _ 0)) _ tt
  keeps_erasure Unprotected = changes (goes k FirstField) _ tt
  keeps_erasure WholeLine = changes k _ tt
  keeps_erasure WholeField = changes k _ tt
  keeps_erasure RestOfScreen = changes k _ tt
  keeps_erasure RestOfLine = changes k _ tt
  keeps_erasure RestOfField = changes k _ tt

  keeps_suppressing : (parameter : ℕ) → Keeps m n (suppressing v parameter)
  unfolding suppressing
  keeps_suppressing parameter =
      let short : (verb : Verb) → length (subnegotiation 20 (code_for v.frame.edition suppress_protection ∷ verb_code verb ∷ [])) ≤ 9 =
      λ verb. byte_message _ _ (not_iac _ suppress_protection (omega arith)) in
      either (Keeps m n) (eqb parameter 253)
      (λ q. answers v.frame.suppressed (quietly (switched k _ _)) (tells (switched k _ _) _ (short Will)))
      (λ q. either (Keeps m n) (eqb parameter 254)
      (λ q. answers v.frame.suppressed (tells (switched k _ _) _ (short Wont)) (quietly (switched k _ _)))
      (λ q. either (Keeps m n) (eqb parameter 251) (λ q. tells k _ (short Dont)) (λ q. quietly k)))

  keeps_map : (f : Facility) (m₁ : Maps) → Keeps m n (saying (with_frame v (with_received v.frame m₁)) (message (own_map v.frame.edition f) ∷ []))
  unfolding own_map subnegotiation doubled
  keeps_map Editing m₁ = tells (asked k m₁) _ (omega arith)
  keeps_map Erasing m₁ = tells (asked k m₁) _ (omega arith)
  keeps_map Transmitting m₁ = tells (asked k m₁) _ (omega arith)
  keeps_map Formatting m₁ = tells (asked k m₁) _ (format_message v.frame.edition)

  -- a shift, unless something is guarded
  shifts_unless : (guarded : Bool) (s : Shift) (from end by : ℕ) → Keeps m n (if guarded then quiet v else shifting_cells v s from end by)
  shifts_unless guarded s from end by = either (Keeps m n) guarded (λ g. quietly k) (λ g. changes k _ tt)

  keeps_obeyed : (c : Command) (h : Held) → value_fault v c h ≡ Ok tt → Keeps m n (obeyed v c h)
  unfolding obeyed value_fault
  keeps_obeyed (Facilities f) h e = keeps_map f _
  keeps_obeyed MoveCursor h e = quietly (at_place k _ (limited_on k (place_in h)))
  keeps_obeyed SkipToLine h e = quietly (at_place k _ (skipped_line_on k (parameter h 0)))
  keeps_obeyed SkipToChar h e = quietly (at_place k _ (skipped_char_on k (parameter h 0)))
  keeps_obeyed (Move to) h e = quietly (goes k to)
  keeps_obeyed (LineShift s) h e = shifts_unless (lines_guarded v) s _ _ _
  keeps_obeyed (CharShift s) h e = shifts_unless (cursor_guarded v) s _ _ _
  keeps_obeyed ReadCursor h e = tells k _ (omega (arith, place_long k cursor_position (omega arith) v.frame.cursor k.cursor))
  keeps_obeyed (Transmit a) h e = keeps_transmitted a
  keeps_obeyed TransmitModified h e = keeps_modified
  keeps_obeyed (Erase a) h e = keeps_erasure a
  keeps_obeyed FormatData h e = quietly (attributed k _ (filled_length _ _ _ _))
  keeps_obeyed Repeat h e = keeps_characters (parameter h 0) k _ (chosen (printable (parameter h 1)) e)
  keeps_obeyed SuppressProtection h e = keeps_suppressing _
  keeps_obeyed Error h e = quietly k

  keeps_judged : (r : Row) (h : Held) (f : Result ⊤ Fault) → fault_of v r.command r.parameters r.governor h ≡ f → Keeps m n (judged v r h f)
  unfolding judged
  keeps_judged r h (Ok passed) e =
      let o = keeps_obeyed r.command h (no_fault v _ _ r.governor h e) in
      record { view = o.view; changes = o.changes; reply = o.reply; executed = omega arith }
  keeps_judged r h (Err OffScreen) e = errs (at_place k _ (limited_on k (place_in h))) _ 3 refl
  keeps_judged r h (Err NotAgreed) e = errs k _ 1 refl
  keeps_judged r h (Err UnknownCode) e = errs k _ 2 refl
  keeps_judged r h (Err TooManyParameters) e = errs k _ 9 refl
  keeps_judged r h (Err TooFewParameters) e = errs k _ 10 refl
  keeps_judged r h (Err BadValue) e = errs k _ 11 refl
  keeps_judged r h (Err BadMap) e = errs k _ 12 refl

  keeps_looked : (l : Option Row) (h : Held) → Keeps m n (looked v l h)
  unfolding looked
  keeps_looked None h = errs k _ 2 refl
  keeps_looked (Some r) h = keeps_judged r h _ refl

  keeps_subcommand : (h : Held) → Keeps m n (subcommand v h)
  unfolding subcommand
  keeps_subcommand h = either (Keeps m n) (eqb h.count 0) (λ e. errs k 0 10 refl) (λ e. keeps_looked _ h)

-- ---- a host byte

keeps_response : {m n : ℕ} {v : View} → SoundView m n v → (p : Pad) (option : ℕ) → Keeps m n (saying v (response v.frame p option))
unfolding response
keeps_response {m} {n} {v} k p option =
    let on : Bool = counts v.frame option in
    either (λ ps. Keeps m n (saying v ps)) (on && (ended p.values p.message).asked)
    (λ q. says k _ (fits_within m n _ 119 (response_message p.values) (omega (arith, k.x3 (and_right (is_x3 option) _ (and_left on _ q))))))
    (λ q. quietly k)

-- whatever the reader told
pub keeps_happening : {m n : ℕ} {v : View} → SoundView m n v → (r : Reader) (p : Pad) (e : Event) → Keeps m n (happening v r p e)
unfolding happening
keeps_happening k r p Nothing = quietly k
keeps_happening {m} {n} {v} k r p (Data b) = either (Keeps m n) (passes v.frame p r.cr b) (λ q. quietly k) (λ q. keeps_data k b)
keeps_happening k r p (Negotiation verb option) = keeps_negotiated k verb option
keeps_happening k r p (Begin option) = quietly k
keeps_happening k r p (Sub option b) = quietly k
keeps_happening {m} {n} {v} k r p (End option) =
    either (Keeps m n) (eqb option det_option && v.frame.det) (λ q. keeps_subcommand k r.held) (λ q. keeps_response k p option)
keeps_happening k r p EndBare = quietly k
keeps_happening k r p Lost = quietly k

-- at most one command is executed
pub executed_one : {m n : ℕ} {v : View} → SoundView m n v → (r : Reader) (p : Pad) (e : Event) → length (happening v r p e).executed ≤ 1
executed_one k r p e = (keeps_happening k r p e).executed

-- ---- a key

-- only printable characters are typed
abbrev pub Typable : Key → Type 0
Typable (Typed c) = printable c ≡ true
Typable Back = Unit {0}
Typable Tab = Unit {0}
Typable Send = Unit {0}
Typable Delete = Unit {0}
Typable (Function n) = Unit {0}
Typable Meaningless = Unit {0}

-- and what a key means is typable
pub typable : (code : ℕ) → Typable (key_of code)
unfolding key_of
typable code =
    either Typable (printable code) (λ p. p)
    (λ p. either Typable (eqb code 8) (λ p. tt)
    (λ p. either Typable (eqb code 9) (λ p. tt)
    (λ p. either Typable (eqb code 13) (λ p. tt)
    (λ p. either Typable (eqb code 127) (λ p. tt)
    (λ p. either Typable (between 128 143 code) (λ p. tt) (λ p. tt))))))

keeps_pressed : {m n : ℕ} {v : View} → SoundView m n v → (key : Key) → Typable key → Keeps m n (pressed v key)
unfolding pressed
keeps_pressed k (Typed c) p = changes (goes k NextOpen) _ p
keeps_pressed k Back p = quietly (goes k PreviousOpen)
keeps_pressed k Tab p = quietly (goes k NextField)
keeps_pressed k Send p = keeps_transmitted k Unprotected
keeps_pressed {v = v} k Delete p = shifts_unless k (cursor_guarded v) Deletion _ _ _
keeps_pressed k (Function f) p = tells k _ (byte_message _ f (not_iac _ fn (omega arith)))
keeps_pressed k Meaningless p = quietly k

-- one that the edit line takes
keeps_typed : {m n : ℕ} {v : View} → SoundView m n v → (p : Pad) → SoundPad p → v.frame.x3 ≡ true → (code : ℕ) → Keeps m n (typed_to v p code)
unfolding typed_to
keeps_typed {m} {n} k p o on code =
    let text = keeps_text (echoed_at p code) k in
    record {
      view = text.view;
      changes = text.changes;
      reply = fits_within m n _ 258 (sent_most o code) (omega (arith, k.x3 on));
      executed = omega arith;
    }

-- whatever the key
pub keeps_key : {m n : ℕ} (s : State) → SoundView m n (view_of s) → SoundPad s.session.pad → (code : ℕ) → Keeps m n (press_effect s code)
keeps_key {m} {n} s k o code =
    let f = s.session.frame in
    either (Keeps m n) (takes_key f code)
    (λ e. keeps_typed k s.session.pad o (and_left f.x3 _ (and_left (line_takes_keys f) _ e)) code)
    (λ e. keeps_pressed k (key_of code) (typable code))

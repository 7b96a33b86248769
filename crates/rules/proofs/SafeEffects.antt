-- Protection in effect and none of the seven executed: what a host byte does is safe, and what a key does that is not refused.
-- Most cases only move the cursor or say bytes: there `search` finds each part of `SafeEffect` by itself.
use Rattle.std.proofs.Common.{◌≡◌, refl, Bool, true, false, not, ◌&&◌, List, [], ◌∷◌, ℕ, zero, suc, arith, eqb, if◌then◌else◌, Option, Some, None, Result, Ok, Err}
use Rattle.std.specs.Prelude.{⊤}
use borrow.Author.Tests.{not-true}
use Rattle.telnet.specs.declared.Verb.{Verb}
use Rattle.telnet.specs.declared.Verb.TheVariants.{Will, Wont, Do, Dont}
use Rattle.telnet.specs.declared.Event.{Event}
use Rattle.telnet.specs.declared.Event.TheVariants.{Nothing, Data, Negotiation, Begin, Sub, End, EndBare, Lost}
use Rattle.telnet.specs.Reader.{verb_code}
use Rattle.edit.specs.declared.range.Shift.{Shift}
use Rattle.edit.specs.declared.range.Shift.TheVariants.{Deletion}
use Rattle.screen.specs.Attributes.{protected_at}
use Rattle.screen.specs.Fields.{field_end, span_end}
use Rattle.words.proofs.Laws.{either, not_both, and_left}
use Rattle.screen.proofs.WordLaws.{none_passes}
use Rattle.screen.proofs.FieldLaws.{start_le, span_open, field_open, opens_unprotected}
use Rattle.rules.specs.declared.Held.{Held}
use Rattle.rules.specs.declared.Frame.{Frame}
use Rattle.rules.specs.declared.Reader.{Reader}
use Rattle.rules.specs.declared.Pad.{Pad}
use Rattle.rules.specs.declared.Area.TheVariants.{Unprotected}
use Rattle.rules.specs.declared.Fault.{Fault}
use Rattle.rules.specs.declared.Fault.TheVariants.{NotAgreed, UnknownCode, OffScreen, TooManyParameters, TooFewParameters, BadValue, BadMap}
use Rattle.rules.specs.declared.Key.{Key}
use Rattle.rules.specs.declared.Key.TheVariants.{Typed, Back, Tab, Send, Delete, Function, Meaningless}
use Rattle.rules.specs.declared.Edition.{Edition}
use Rattle.rules.specs.Session.{View, cursor_cell, screen_end}
use Rattle.rules.specs.Number.{det_option}
use Rattle.rules.specs.Command.{Row, rows, reaches, reaches_past}
use Rattle.rules.specs.Effect.{Effect, Part}
use Rattle.rules.specs.Cursor.{cursor_guarded}
use Rattle.rules.specs.Telnet.{turned, switched_on, switched_off, negotiated, host_character, host_characters, host_data, host_text}
use Rattle.rules.specs.Pad.{response, echoed_at, typed_to, passes}
use Rattle.rules.specs.Subcommand.{field_texts, without_first, transmitted, modified_texts, transmitted_modified, erasure, shifting, cursor_line_start, lines_guarded, line_shifting, suppressing, obeyed, judged, looked, subcommand}
use Rattle.rules.specs.Key.{needs_of, given, pressed}
use Rattle.rules.specs.Operation.{happening}
use Rattle.rules.specs.Noninterference.{none_reaches}
use Rattle.rules.proofs.All.{All, ◌and◌, all_append}
use Rattle.rules.proofs.Rows.{IfListed, in_list}
use Rattle.rules.proofs.Options.{by_option}
use Rattle.rules.proofs.Safe.{Open, SafeChange, SafePart}

-- the attribute bytes stay, protection stays in effect, and unprotected cells alone are changed and sent
pub record SafeEffect (attrs : List ℕ) (e : Effect) : Type 0 where
  pub attributes : e.view.attrs ≡ attrs
  pub protecting : e.view.frame.suppressed ≡ false
  pub changes : All (SafeChange attrs) e.changes
  pub reply : All (SafePart attrs) e.reply

-- so it is, if it executes none of the seven
abbrev Allowed : List ℕ → Effect → Type 0
Allowed attrs e = none_reaches e.executed ≡ true → SafeEffect attrs e

-- ---- host characters

-- a cell that is not guarded is unprotected
open_cursor : (v : View) → v.frame.suppressed ≡ false → cursor_guarded v ≡ false → protected_at v.attrs (cursor_cell v) ≡ false
open_cursor v protecting g = rw protecting at g

safe_character : (v : View) → v.frame.suppressed ≡ false → (c : ℕ) → SafeEffect v.attrs (host_character v c)
unfolding host_character
safe_character v protecting c = search (either (SafeEffect v.attrs), open_cursor)

safe_characters : (n : ℕ) (v : View) → v.frame.suppressed ≡ false → (c : ℕ) → SafeEffect v.attrs (host_characters n v c)
unfolding host_characters
safe_characters zero v protecting c = search
safe_characters (suc n) v protecting c =
    let one = safe_character v protecting c in
    let rest = rw one.attributes at (safe_characters n (host_character v c).view one.protecting c) in
    search all_append

safe_any : (v : View) → v.frame.suppressed ≡ false → (b : ℕ) → SafeEffect v.attrs (host_data v b)
unfolding host_data
safe_any v protecting b = search (either (SafeEffect v.attrs), safe_character) depth 7

safe_text : (bs : List ℕ) (v : View) → v.frame.suppressed ≡ false → SafeEffect v.attrs (host_text v bs)
unfolding host_text
safe_text [] v protecting = search
safe_text (b ∷ bs) v protecting =
    let one = safe_any v protecting b in
    let rest = rw one.attributes at (safe_text bs (host_data v b).view one.protecting) in
    search all_append

-- ---- fields and the cursor's cell

module _ (attrs : List ℕ) where
  -- an unprotected cell and the rest of its field
  open_rest : (i : ℕ) → protected_at attrs i ≡ false → Open attrs i (field_end attrs i)
  open_rest i u j lo hi = field_open attrs i j u (omega (arith, start_le attrs i)) hi

  -- and its edit span
  open_span : (suppressed : Bool) → suppressed ≡ false → (i stop : ℕ) → protected_at attrs i ≡ false → Open attrs i (span_end suppressed attrs i stop)
  open_span suppressed protecting i stop u = rw protecting (λ j. span_open attrs i stop j u)

  safe_texts : (e : Edition) (i n : ℕ) → All (SafePart attrs) (field_texts e attrs i n)
  unfolding field_texts
  safe_texts e i zero = tt
  safe_texts e i (suc n) = let rest = safe_texts e (suc i) n in search (either (All (SafePart attrs)), open_rest, opens_unprotected)

  safe_modified_texts : (e : Edition) (width i n : ℕ) → All (SafePart attrs) (modified_texts e width attrs i n)
  unfolding modified_texts
  safe_modified_texts e width i zero = tt
  safe_modified_texts e width i (suc n) =
      let rest = safe_modified_texts e width (suc i) n in search (either (All (SafePart attrs)), open_rest, opens_unprotected)

  without_first_lem : (ps : List Part) → All (SafePart attrs) ps → All (SafePart attrs) (without_first ps)
  without_first_lem [] h = tt
  without_first_lem (p ∷ ps) h = h.1

module _ (v : View) (protecting : v.frame.suppressed ≡ false) where
  unless_guarded_lem : {A : Type 0} (P : A → Type 0) (x : A) → (protected_at v.attrs (cursor_cell v) ≡ false → P x)
      → All P (if cursor_guarded v then [] else x ∷ [])
  unless_guarded_lem P x f = either (All P) (cursor_guarded v) (λ g. tt) (λ g. (f (open_cursor v protecting g), tt))

  -- shifts, by what they ask
  safe_line_shift : (s : Shift) → SafeEffect v.attrs (line_shifting v s)
  safe_line_shift s =
      either (SafeEffect v.attrs) (lines_guarded v) (λ g. search)
      (λ g. let open_lines : Open v.attrs (cursor_line_start v) (screen_end v) =
      λ i a b. rw protecting at (none_passes _ _ (cursor_line_start v) _ i g (omega arith) a b) in search)

  safe_shift : (s : Shift) → SafeEffect v.attrs (shifting v s)
  safe_shift s =
      either (SafeEffect v.attrs) (cursor_guarded v) (λ g. search)
      (λ g. let u = open_cursor v protecting g in search open_span)

  -- ---- negotiation

  safe_negotiated : (verb : Verb) (option : ℕ) → SafeEffect v.attrs (negotiated v verb option)
  unfolding negotiated switched_on switched_off turned
  safe_negotiated Will option = search
  safe_negotiated Wont option = search
  safe_negotiated Do option =
      by_option (λ o. SafeEffect v.attrs (switched_on v o option)) option (λ q. search (either (SafeEffect v.attrs)))
      (λ q. search (either (SafeEffect v.attrs))) search
  safe_negotiated Dont option =
      by_option (λ o. SafeEffect v.attrs (switched_off v o option)) option (λ q. search (either (SafeEffect v.attrs)))
      (λ q. search (either (SafeEffect v.attrs))) search

  -- ---- subcommands

  -- what 21 and key 13 send
  safe_fields : SafeEffect v.attrs (transmitted v Unprotected)
  unfolding transmitted
  safe_fields = search (without_first_lem, safe_texts)

  -- and what 27 sends
  safe_modified : SafeEffect v.attrs (transmitted_modified v)
  safe_modified = search safe_modified_texts

  safe_suppressing : (n : ℕ) → eqb n (verb_code Do) ≡ false → SafeEffect v.attrs (suppressing v n)
  unfolding suppressing
  safe_suppressing n r = rw (r, protecting) (search (either (SafeEffect v.attrs)))

  -- a row of the list: executed with bytes that do not reach past protection, its command is safe
  abbrev SafeRow : Row → Type 0
  SafeRow r = (h : Held) → reaches_past r h ≡ false → SafeEffect v.attrs (obeyed v r.command h)

  -- the rows that always reach past
  past : {A : Type 0} → true ≡ false → A
  past r = not_both true refl r

  safe_rows : All SafeRow rows
  unfolding rows reaches obeyed transmitted erasure
  safe_rows =
      -- 1 to 5
      (λ h r. search) and (λ h r. search) and (λ h r. search) and (λ h r. search) and (λ h r. search)
      -- 6 to 12
      and (λ h r. search) and (λ h r. search) and (λ h r. search) and (λ h r. search) and (λ h r. search) and (λ h r. search) and (λ h r. search)
      -- 13 to 16
      and (λ h r. safe_line_shift _) and (λ h r. safe_line_shift _) and (λ h r. safe_shift _) and (λ h r. safe_shift _)
      -- 17, 19
      and (λ h r. search) and (λ h r. search)
      -- 20 to 27
      and (λ h. past) and (λ h r. safe_fields) and (λ h. past) and (λ h r. search (unless_guarded_lem, field_open)) and (λ h. past) and (λ h. past)
      and (λ h r. search (unless_guarded_lem, open_rest)) and (λ h r. safe_modified)
      -- 29 to 35
      and (λ h. past) and (λ h r. search) and (λ h r. search) and (λ h r. search) and (λ h r. search) and (λ h r. search) and (λ h r. search)
      -- 36, 37, 38, 41
      and (λ h. past) and (λ h r. safe_characters _ v protecting _) and (λ h. safe_suppressing _) and (λ h r. search) and tt

  safe_judged : (r : Row) → SafeRow r → (h : Held) (f : Result ⊤ Fault) → Allowed v.attrs (judged v r h f)
  unfolding judged none_reaches
  safe_judged r safe h (Ok passed) = λ x. let e = safe h (not-true _ (and_left _ _ x)) in search
  safe_judged r safe h (Err NotAgreed) = search
  safe_judged r safe h (Err UnknownCode) = search
  safe_judged r safe h (Err OffScreen) = search
  safe_judged r safe h (Err TooManyParameters) = search
  safe_judged r safe h (Err TooFewParameters) = search
  safe_judged r safe h (Err BadValue) = search
  safe_judged r safe h (Err BadMap) = search

  safe_looked : (l : Option Row) → IfListed SafeRow l → (h : Held) → Allowed v.attrs (looked v l h)
  unfolding looked
  safe_looked None safe h = search
  safe_looked (Some r) safe h = safe_judged r safe h _

  safe_subcommand : (h : Held) → Allowed v.attrs (subcommand v h)
  unfolding subcommand
  safe_subcommand h = either (Allowed v.attrs) (eqb h.count 0) (λ q. search) (λ q. safe_looked _ (in_list SafeRow safe_rows _ _) h)

  -- ---- keys

  pub safe_key : (k : Key) → given (needs_of k).unguarded (not (cursor_guarded v)) ≡ true → SafeEffect v.attrs (pressed v k)
  unfolding pressed needs_of
  safe_key (Typed c) g = let u = open_cursor v protecting (not-true _ g) in search
  safe_key Back g = search
  safe_key Tab g = search
  safe_key Send g = safe_fields
  safe_key Delete g = safe_shift Deletion
  safe_key (Function n) g = search
  safe_key Meaningless g = search

  -- what the edit line echoes is host text
  pub safe_typed : (p : Pad) (k : ℕ) → SafeEffect v.attrs (typed_to v p k)
  unfolding typed_to
  safe_typed p k = let text = safe_text (echoed_at p k) v protecting in search

-- ---- host bytes

safe_response : (attrs : List ℕ) (f : Frame) (p : Pad) (option : ℕ) → All (SafePart attrs) (response f p option)
unfolding response
safe_response attrs f p option = search (either (All (SafePart attrs)))

pub safe_happening : (v : View) → v.frame.suppressed ≡ false → (r : Reader) (p : Pad) (e : Event) → Allowed v.attrs (happening v r p e)
unfolding happening
safe_happening v protecting r p Nothing = search
safe_happening v protecting r p (Data b) = λ x. either (SafeEffect v.attrs) (passes v.frame p r.cr b) (λ q. search) (λ q. safe_any v protecting b)
safe_happening v protecting r p (Negotiation verb option) = search safe_negotiated
safe_happening v protecting r p (Begin option) = search
safe_happening v protecting r p (Sub option b) = search
safe_happening v protecting r p (End option) =
    either (Allowed v.attrs) (eqb option det_option && v.frame.det) (λ q. safe_subcommand v protecting r.held) (λ q. search safe_response)
safe_happening v protecting r p EndBare = search
safe_happening v protecting r p Lost = search

-- Laws of one key: its refusals, and what the decision on it does.
use Rattle.std.proofs.Common.{◌≡◌, refl, sym, ap, ◌∙◌, Bool, true, false, List, append-nil, ℕ, ◌≤◌, zero-add, arith, length, if◌then◌else◌, Ok, Err}
use Rattle.rules.specs.declared.Refusal.{Refusal}
use Rattle.rules.specs.declared.Key.{Key}
use Rattle.rules.specs.declared.Key.TheVariants.{Typed, Back, Tab, Send, Delete, Function, Meaningless}
use Rattle.rules.specs.declared.Frame.{Frame}
use Rattle.rules.specs.declared.Pad.{Pad}
use Rattle.rules.specs.Session.{State, View, session, screen, view, view_of}
use Rattle.rules.specs.Refusal.{Verdict, is_taken, verdict, size_tests, state_tests}
use Rattle.rules.specs.Effect.{Effect, changed_all, cleared, marks_after, spelled, spelled_all}
use Rattle.rules.specs.Cursor.{cursor_guarded}
use Rattle.rules.specs.Telnet.{host_text}
use Rattle.rules.specs.Pad.{takes_key, line_tests, pad_typed, sent_at, echoed_at, typed_to}
use Rattle.rules.specs.Subcommand.{transmitted}
use Rattle.rules.specs.Key.{key_of, key_tests, pressed}
use Rattle.rules.specs.Operation.{outcome, host_refusal, press_tests, press_effect, key_refusal}
use Rattle.rules.specs.Call.{key}
use Rattle.rules.proofs.Sound.{Accepted, sound_of, passes}
use Rattle.rules.proofs.Room.{room_key}
use Rattle.decide.specs.declared.decision.Decision.{Decision}
use Rattle.decide.specs.Decision.{edited, parts_of, meant, shown, Decides, where_fits}
use Rattle.decide.specs.Inner.Decision.{marking_of}
use Rattle.decide.specs.Writing.{pressed_if_taken}
use Rattle.reply.specs.Written.{Wrote}
use Rattle.reply.specs.Pieces.{say_pieces}
use Rattle.reply.specs.Inner.Reply.{Sayable}
use Rattle.reply.proofs.ReplyLaws.{said}
use Rattle.text.specs.Text.{Changes}
use Rattle.det.specs.Inner.Take.{Accepts, key_taken}
use Rattle.words.proofs.Laws.{either}
use Rattle.words.specs.Stored.{Emitted}
use Rattle.words.proofs.StoredLaws.{emitted_whole}
use Rattle.text.proofs.TextLaws.{text_keeps, text_marks}
use Rattle.admit.proofs.RefuseLaws.{passed_on, failed_first}
use Rattle.decide.proofs.DecideLaws.{fits_rule}
use Rattle.decide.proofs.WriteLaws.{pressed_was}
use Rattle.det.proofs.TakeLaws.{accepts_fits, sayable}
use Rattle.det.proofs.ApplyLaws.{marking_of_lem}

-- the refusal of a key: of every call, or else its own
module _ (s : State) (reply : List ℕ) (code : ℕ) where
  pub refused_first : {why : Refusal} → Err why ≡ host_refusal s reply → Err why ≡ key_refusal s reply code
  unfolding size_tests
  refused_first e = sym (failed_first _ _ (sym e))

  pub refused_last : {v r : Verdict} → v ≡ host_refusal s reply → v ≡ Ok tt → r ≡ verdict (press_tests s code) → r ≡ key_refusal s reply code
  unfolding size_tests state_tests
  refused_last e t h = rw (passed_on _ _ (sym e ∙ t)) h

-- its own refusals: the edit line's, or those of its meaning
module _ (s : State) (code : ℕ) where
  pub line_refusal : {takes : Bool} {r : Verdict} → takes ≡ takes_key s.session.frame code → takes ≡ true → r ≡ verdict (line_tests s.session.pad code)
      → r ≡ verdict (press_tests s code)
  line_refusal e t h = rw (sym e ∙ t) h

  pub meaning_refusal : {takes : Bool} {k : Key} {r : Verdict} → takes ≡ takes_key s.session.frame code → takes ≡ false → k ≡ key_of code
      → r ≡ verdict (key_tests (view_of s) k) → r ≡ verdict (press_tests s code)
  meaning_refusal e t q h = rw (sym e ∙ t) (h ∙ rw q)

-- no key changes an attribute byte
keeps_attributes : (v : View) (k : Key) → v.attrs ≡ (pressed v k).view.attrs
unfolding pressed transmitted
keeps_attributes v (Typed c) = refl
keeps_attributes v Back = refl
keeps_attributes v Tab = refl
keeps_attributes v Send = refl
keeps_attributes v Delete = either (λ (e : Effect). v.attrs ≡ e.view.attrs) (cursor_guarded v) (λ g. refl) (λ g. refl)
keeps_attributes v (Function n) = refl
keeps_attributes v Meaningless = refl

module _ (s : State) (reply : List ℕ) (code : ℕ) (p : key_refusal s reply code ≡ Ok tt) where
  found : Accepted s reply
  found = sound_of s (key code reply) (ap is_taken p)

  -- host bytes would be taken too
  permits_accepts : Accepts s reply 0
  permits_accepts = passes found.sound reply found.room

  module _ (off : takes_key s.session.frame code ≡ false)
      {k : Key} (q : k ≡ key_of code) {d : Decision} (decided : Decides (view_of s) d (where_fits (λ v. pressed_if_taken v k))) where
    -- the key passes its own tests
    permits_key : verdict (key_tests (view_of s) k) ≡ Ok tt
    unfolding size_tests state_tests
    permits_key = rw q (rw off at (sym (passed_on _ _ permits_accepts) ∙ p))

    t : Decides (view_of s) d (λ v. pressed v k)
    t = pressed_was k (sym permits_key) (fits_rule _ (accepts_fits s reply 0 permits_accepts) decided)

    does : press_effect s code ≡ pressed (view_of s) (key_of code)
    does = rw off

    key_means : meant s.screen.attrs d ≡ shown (pressed (view_of s) (key_of code))
    key_means = (rw q at t).meaning

    parts : parts_of d.frame.edition s.screen.attrs d.say ≡ (pressed (view_of s) (key_of code)).reply
    parts = ap (λ (o : Effect). o.reply) key_means

    -- what it marks
    key_marks : marks_after s.screen.marks (if d.clear then cleared else marking_of d.edit)
        ≡ marks_after s.screen.marks (pressed (view_of s) (key_of code)).marking
    key_marks =
        rw (← marking_of_lem (view d.frame s.screen.attrs) d.edit) (ap (λ (x : Effect). marks_after s.screen.marks x.marking) key_means)

    -- the reply can be written
    key_sayable : Sayable d.frame.edition d.say s.screen reply 0
    key_sayable = sayable s reply 0 permits_accepts t.sendable (rw (← parts) at (rw does at (room_key found.sound code)))

    -- and what is done is what the key does
    pub key_settled : {f : Frame} {chars marks reply' : List ℕ} {written : ℕ} → let b = s.screen in
        Wrote reply 0 (say_pieces d.frame.edition b.chars b.attrs b.marks d.say) reply' written
        → Changes (edited (view d.frame b.attrs) d.edit) b.chars b.attrs f chars
        → marks ≡ marks_after b.marks (if d.clear then cleared else marking_of d.edit)
        → outcome (record { session = session f s.session.reader s.session.pad; verdict = Ok tt; taken = 1; written = written })
        (screen chars s.screen.attrs marks) reply'
        ≡ key_taken s reply code
    key_settled m c k =
        let emitted = rw parts at (said key_sayable m) in
        let frame = c.frame ∙ ap (λ (x : Effect). x.view.frame) key_means in
        let chars = c.characters ∙ ap (λ (x : Effect). changed_all s.screen.chars s.screen.attrs x.changes) key_means in
        let marks = k ∙ key_marks in
        let written = emitted.next ∙ zero-add _ in
        let reply = emitted_whole (rw parts at key_sayable.room) emitted in
        rw off (λ i. outcome
        (record { session = session (frame i) s.session.reader s.session.pad; verdict = Ok tt; taken = 1; written = written i })
        (screen (chars i) (keeps_attributes (view_of s) (key_of code) i) (marks i)) (reply i))

  module _ (on : takes_key s.session.frame code ≡ true) where
    line_effect : press_effect s code ≡ typed_to (view_of s) s.session.pad code
    line_effect = rw on

    line_room : length (sent_at s.session.pad code) ≤ length reply
    unfolding typed_to spelled_all spelled
    line_room = omega (arith, found.room, rw append-nil at (rw line_effect at (room_key found.sound code)))

    -- what the edit line does
    pub line_settled : {f : Frame} {pad : Pad} {chars reply' : List ℕ} {written : ℕ}
        → Emitted reply 0 (sent_at s.session.pad code) reply' written
        → Changes (host_text (view_of s) (echoed_at s.session.pad code)) s.screen.chars s.screen.attrs f chars
        → pad ≡ pad_typed s.session.pad code
        → outcome (record { session = session f s.session.reader pad; verdict = Ok tt; taken = 1; written = written })
        (screen chars s.screen.attrs s.screen.marks) reply'
        ≡ key_taken s reply code
    unfolding typed_to spelled_all spelled marks_after
    line_settled e c q =
        let whole = emitted_whole (omega (arith, line_room)) e in
        let written = e.next ∙ zero-add _ in
        rw (on, append-nil) (λ i. outcome
        (record { session = session (c.frame i) s.session.reader (q i); verdict = Ok tt; taken = 1; written = written i })
        (screen (c.characters i) (sym (text_keeps (view_of s) (echoed_at s.session.pad code)) i)
        (marks_after s.screen.marks (sym (text_marks (view_of s) (echoed_at s.session.pad code)) i))) (whole i))

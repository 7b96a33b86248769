-- What refusals 1 to 4 ask holds after an open, and stays so.
use Rattle.std.proofs.Common.{◌≡◌, refl, ap, Bool, true, false, not, ◌&&◌, ◌||◌, List, [], ◌∷◌, ◌++◌, ℕ, zero, suc, ◌*◌, ◌≤◌, arith, leb-true, le-leb, ltb-true, lt-ltb, eqb-true, eq-eqb, leb, ltb, eqb, length, replicate, Ok, Err}
use lib.ListN.{length-replicate}
use Rattle.words.specs.Words.{between}
use Rattle.screen.specs.Cells.{on_screen}
use Rattle.words.proofs.Laws.{either, true_or_false, not_both, and_left, and_right}
use Rattle.telnet.specs.declared.Event.{Event}
use Rattle.telnet.specs.declared.Event.TheVariants.{Nothing, Data, Negotiation, Begin, Sub, End, EndBare, Lost}
use Rattle.rules.specs.declared.Held.{Held}
use Rattle.rules.specs.declared.Frame.{Frame}
use Rattle.rules.specs.declared.Edition.TheVariants.{September}
use Rattle.rules.specs.declared.Refusal.TheVariants.{Size}
use Rattle.rules.specs.Session.{Screen, State, cells, reply_room, x3_cells, fresh_frame, fresh, state, view_of, all_printable, session_ok}
use Rattle.rules.specs.Edition.{edition_of}
use Rattle.rules.specs.Refusal.{is_taken, Test, verdict, size_test, buffer_test, open_tests, size_tests, state_tests}
use Rattle.rules.specs.Telnet.{holding, held_after}
use Rattle.rules.specs.Operation.{host_byte, running, unless, host_refusal, host_bytes, press_tests, key_ran, one_key, opened}
use Rattle.rules.specs.Call.{Call, host, key, called, left, state_after}
use Rattle.rules.proofs.Verdicts.{taken_or_refused}
use Rattle.rules.proofs.Refusals.{asked}
use Rattle.rules.proofs.Calls.{reply_of, refusal_by, ran_by, called_cases}
use Rattle.rules.proofs.Characters.{Text}
use Rattle.rules.proofs.Marks.{Marks, still_marks, no_marks}
use Rattle.rules.proofs.Views.{SoundView}
use Rattle.rules.proofs.Pads.{SoundPad, pad_parts, pad_whole, fresh_pad_lem, pad_told, pad_pressed_lem}
use Rattle.rules.proofs.Effects.{keeps_happening, keeps_key}

-- What refusals 1 to 4 and 11 ask of a state, its screen being m cells wide and n lines high.
pub record Sound (m n : ℕ) (s : State) : Type 0 where
  pub view : SoundView m n (view_of s)
  pub held : s.session.reader.held.count ≤ 6
  pub pad : SoundPad s.session.pad
  pub chars : Text (n * m) s.screen.chars
  pub marks : Marks (n * m) s.screen.marks

-- ---- it stays so

-- the count of held bytes stops at 6
held_few : (h : Held) → h.count ≤ 6 → (e : Event) → (held_after h e).count ≤ 6
unfolding held_after holding
held_few h l Nothing = l
held_few h l (Data b) = l
held_few h l (Negotiation verb option) = l
held_few h l (Begin option) = omega arith
held_few h l (Sub option b) = either (λ (x : Held). x.count ≤ 6) (ltb h.count 6) (λ e. omega (arith, ltb-true)) (λ e. l)
held_few h l (End option) = omega arith
held_few h l EndBare = omega arith
held_few h l Lost = omega arith

module _ {m n : ℕ} {s : State} (k : Sound m n s) where
  -- a host byte
  pub sound_byte : (b : ℕ) → Sound m n (host_byte s b).state
  unfolding host_byte
  sound_byte b =
      let e = keeps_happening k.view s.session.reader s.session.pad _ in
      record {
        view = e.view;
        held = held_few _ k.held _;
        pad = pad_told k.pad _ _;
        chars = e.changes _ _ k.chars;
        marks = still_marks k.marks _;
      }

  -- a key
  pub sound_key : (code : ℕ) → Sound m n (key_ran s code).state
  sound_key code =
      let e = keeps_key s k.view k.pad code in
      record {
        view = e.view;
        held = k.held;
        pad = pad_pressed_lem s k.pad code;
        chars = e.changes _ _ k.chars;
        marks = still_marks k.marks _;
      }

-- host bytes
pub sound_running : {m n : ℕ} {s : State} → Sound m n s → (bs : List ℕ) → Sound m n (running s bs).state
unfolding running
sound_running k [] = k
sound_running {s = s} k (b ∷ bs) = sound_running {s = (host_byte s b).state} (sound_byte k b) bs

sound_ran : {m n : ℕ} {s : State} → Sound m n s → (c : Call) → Sound m n (ran_by s c).state
sound_ran k (host input reply) = sound_running k _
sound_ran k (key code reply) = sound_key k code

-- a call, refused or not
pub sound_called : {m n : ℕ} {s : State} → Sound m n s → (c : Call) → Sound m n (left (called s c))
sound_called {m} {n} {s} k c = called_cases (λ o. Sound m n (left o)) s c (λ t. sound_ran k c) (λ r f. k)

-- calls
pub sound_after : {m n : ℕ} {s : State} → Sound m n s → (calls : List Call) → Sound m n (state_after s calls)
unfolding state_after
sound_after k [] = k
sound_after {s = s} k (c ∷ cs) = sound_after {s = left (called s c)} (sound_called k c) cs

-- ---- from the tests, and back

halves : (a b : Bool) → (a && b) ≡ true → (a ≡ true) × (b ≡ true)
halves a b e = (and_left a b e, and_right a b e)

-- what refusals 1 and 2 ask
abbrev Sizes : Frame → Screen → Type 0
Sizes f b =
    (1 ≤ f.width) × (f.width ≤ 132) × (1 ≤ f.height) × (f.height ≤ 64)
    × (length b.chars ≡ cells f) × (length b.attrs ≡ cells f) × (length b.marks ≡ cells f)

both_sizes : (f : Frame) (b : Screen) → (size_test f).passes ≡ true → (buffer_test f b).passes ≡ true → Sizes f b
both_sizes f b size buffers =
    let z = halves (between 1 132 f.width) (between 1 64 f.height) size in
    let w = halves (leb 1 f.width) (leb f.width 132) z.0 in
    let h = halves (leb 1 f.height) (leb f.height 64) z.1 in
    let l = halves (eqb (length b.chars) (cells f)) _ buffers in
    let k = halves (eqb (length b.attrs) (cells f)) (eqb (length b.marks) (cells f)) l.1 in
    omega (arith, leb-true, eqb-true)

sizes_of : (f : Frame) (b : Screen) (others : List Test) → is_taken (verdict (size_tests f b ++ others)) ≡ true
    → Sizes f b × (is_taken (verdict others) ≡ true)
unfolding size_tests
sizes_of f b others e =
    let size = asked _ _ e in
    let buffers = asked _ _ size.1 in
    (both_sizes f b size.0 buffers.0, buffers.1)

open_sizes : (f : Frame) (named : ℕ) (b : Screen) → is_taken (verdict (open_tests f named b)) ≡ true → Sizes f b
unfolding open_tests
open_sizes f named b e =
    let size = asked _ _ e in
    let edition = asked _ _ size.1 in
    let buffers = asked _ _ edition.1 in
    both_sizes f b size.0 buffers.0

-- what refusals 1 to 5 and 11 ask
pub record Accepted (s : State) (reply : List ℕ) : Type 0 where
  pub sound : Sound s.session.frame.width s.session.frame.height s
  pub room : reply_room s.session.frame ≤ length reply

accepted : (s : State) (reply : List ℕ) (others : List Test)
    → is_taken (verdict (size_tests s.session.frame s.screen ++ (state_tests s.session s.screen reply ++ others))) ≡ true
    → Accepted s reply
unfolding state_tests session_ok
accepted s reply others e =
    let f = s.session.frame in
    let z = sizes_of _ _ _ e in
    let text = asked _ _ z.1 in
    let session = asked _ _ text.1 in
    let small = asked _ _ session.1 in
    let room = asked _ _ small.1 in
    let o = halves (on_screen f.width f.height f.cursor) _ session.0 in
    let p = halves (ltb f.cursor.x.0 f.width) (ltb f.cursor.y.0 f.height) o.0 in
    let h = halves (leb s.session.reader.held.count 6) _ o.1 in
    let x = halves (not f.x3 || leb x3_cells (cells f)) _ h.1 in
    let wide : f.x3 ≡ true → x3_cells ≤ cells f = λ on. leb-true x3_cells (cells f) (rw on at x.0) in
    record {
      sound = record {
        view = record { sizes = omega arith; cursor = omega (arith, ltb-true); attrs = omega arith; x3 = wide };
        held = omega (arith, leb-true);
        pad = pad_parts s.session.pad x.1;
        chars = record { long = omega arith; printing = text.0 };
        marks = record { long = omega arith; small = small.0 };
      };
      room = omega (arith, leb-true);
    }

-- a call that is not refused finds a sound state, and the room for a reply
pub sound_of : (s : State) (c : Call) → is_taken (refusal_by s c) ≡ true → Accepted s (reply_of c)
unfolding state_tests
sound_of s (host input reply) e = accepted s reply [] e
sound_of s (key code reply) e = accepted s reply (press_tests s code) e

-- and host bytes that find these are not refused
pub passes : {m n : ℕ} {s : State} → Sound m n s → (reply : List ℕ) → reply_room s.session.frame ≤ length reply
    → host_refusal s reply ≡ Ok tt
unfolding verdict size_tests state_tests session_ok
passes {m} {n} {s} k reply r =
    let v = k.view in
    let z = v.sizes in
    let f = s.session.frame in
    let wide : (not f.x3 || leb x3_cells (cells f)) ≡ true =
    true_or_false f.x3 (λ on. rw on (le-leb x3_cells (cells f) (rw (z.width, z.height) (v.x3 on)))) (λ off. rw off) in
    rw (z.width, z.height, le-leb 1 m (omega arith), le-leb m 132 z.wide, le-leb 1 n (omega arith), le-leb n 64 z.high)
    (rw (eq-eqb _ _ k.chars.long, eq-eqb _ _ v.attrs, eq-eqb _ _ k.marks.long, k.chars.printing, k.marks.small)
    (rw (lt-ltb _ m v.cursor.0, lt-ltb _ n v.cursor.1, le-leb _ 6 k.held, rw (z.width, z.height) at wide, pad_whole k.pad, le-leb _ _ (rw (z.width, z.height) at r))))

-- ---- open

spaces_printable : (n : ℕ) → all_printable (replicate n 32) ≡ true
unfolding all_printable
spaces_printable zero = refl
spaces_printable (suc n) = spaces_printable n

no_screen : (b : Screen) (c : Call) → (called (state (fresh 0 0 September) b) c).answer.verdict ≡ Err Size
unfolding called host_bytes one_key unless verdict size_tests
no_screen b (host input reply) = refl
no_screen b (key code reply) = refl

module _ (m n named : ℕ) (b : Screen) where
  -- an open that is not refused
  pub sound_open : (opened m n named b).answer.verdict ≡ Ok tt → Sound m n (left (opened m n named b))
  unfolding opened unless
  sound_open =
      taken_or_refused (verdict (open_tests (fresh_frame m n (edition_of named)) named b))
      (λ t. rw t
      (λ e.
      let z = open_sizes (fresh_frame m n (edition_of named)) named b (ap is_taken t) in
      record {
        view = record {
          sizes = omega arith;
          cursor = omega arith;
          attrs = length-replicate (n * m) 0;
          x3 = λ t. not_both false t refl;
        };
        held = omega arith;
        pad = fresh_pad_lem;
        chars = record { long = length-replicate (n * m) 32; printing = spaces_printable (n * m) };
        marks = record { long = length-replicate (n * m) 0; small = no_marks (n * m) };
      }))
      (λ r f. rw f (λ e. cc))

  refused_open : ((opened m n named b).answer.verdict ≡ Ok tt → ⊥) → (opened m n named b).answer.session ≡ fresh 0 0 September
  unfolding opened unless
  refused_open =
      taken_or_refused (verdict (open_tests (fresh_frame m n (edition_of named)) named b)) (λ t. rw t (λ r. absurd (r refl)))
      (λ why f. rw f (λ r. refl))

  -- a refused open's session is refused by every call, with 1, whatever is lent
  pub refused_open_refused : ((opened m n named b).answer.verdict ≡ Ok tt → ⊥) → (again : Screen) (c : Call)
      → (called (state (opened m n named b).answer.session again) c).answer.verdict ≡ Err Size
  refused_open_refused r again c = rw (refused_open r) (no_screen again c)

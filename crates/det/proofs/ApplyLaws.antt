-- Laws of changes: REPEAT is done one character at a time, and every other edit at once.
use Rattle.std.proofs.Common.{◌≡◌, refl, sym, ap, ◌∙◌, List, ◌++◌, ℕ, zero, suc, ◌≤◌, arith}
use Rattle.words.proofs.Laws.{either}
use Rattle.rules.specs.declared.Edition.{Edition}
use Rattle.rules.specs.declared.Frame.{Frame}
use Rattle.rules.specs.Session.{Screen, View, placed, view}
use Rattle.rules.specs.Effect.{Effect, changed_all, changing, spelled_all}
use Rattle.rules.specs.Telnet.{host_character, host_characters}
use Rattle.rules.specs.Cursor.{cursor_guarded}
use Rattle.rules.proofs.Characters.{changed_append}
use Rattle.decide.specs.declared.decision.Say.{Say}
use Rattle.decide.specs.declared.decision.Edit.{Edit}
use Rattle.decide.specs.declared.decision.Edit.TheVariants.{Nothing, Put, Erase, Shift, Repeat}
use Rattle.decide.specs.Decision.{edited, parts_of}
use Rattle.decide.specs.Inner.Decision.{changes_of, marking_of, Once}
use Rattle.reply.specs.declared.Reply.{Reply}
use Rattle.reply.specs.Written.{Puts}
use Rattle.reply.specs.Pieces.{say_pieces}
use Rattle.reply.specs.Inner.Reply.{Sayable}
use Rattle.reply.proofs.ReplyLaws.{said}
use Rattle.text.specs.declared.canvas.Canvas.{Canvas}
use Rattle.text.specs.Text.{Changes}
use Rattle.text.specs.Canvas.{shown, Kept, Draws}
use Rattle.text.proofs.CanvasLaws.{kept_none, kept_on}
use Rattle.det.specs.Inner.Apply.{Emits}

-- what can be said is put as its bytes
pub puts_said : {e : Edition} {say : Say} {b : Screen} {r r' : Reply} → Sayable e say b r.buffer.now r.at
    → Puts r (say_pieces e b.chars b.attrs b.marks say) r' → Emits r (spelled_all b (parts_of e b.attrs say)) r'
puts_said s p = record { same_buffer = p.same_buffer; emitted = said s p.wrote }

-- what becomes of the lent characters in the end
pub draws_end : {e : Effect} {c c' : Canvas} → Draws e c c' → {chars : List ℕ}
    → (c.chars.ghost_name ≡ c'.chars.ghost_name → chars ≡ c'.chars.now) → Changes e c.chars.now c.attrs.now c'.frame chars
draws_end d lent = record { frame = d.changes.frame; characters = lent (sym d.kept.buffer) ∙ d.changes.characters }

-- the canvas with other characters
abbrev with_chars : Canvas → List ℕ → Canvas
with_chars c chars' = record c { chars = record c.chars { now = chars' } }

-- an edit that is done at once leaves the frame as it is
pub draws_once : (edit : Edit) {c : Canvas} {chars' : List ℕ} → Once edit
    → chars' ≡ changed_all c.chars.now c.attrs.now (changes_of edit) → Draws (edited (shown c) edit) c (with_chars c chars')
draws_once edit {c} once e =
    rw (once (shown c)) (record { kept = record { buffer = refl; attrs = refl }; frame = refl; changes = record { frame = refl; characters = e } })

-- and no edit the characters too
pub changes_none : (f : Frame) (chars attrs : List ℕ) → Changes (edited (view f attrs) Nothing) chars attrs f chars
unfolding changed_all
changes_none f chars attrs = record { frame = refl; characters = refl }

-- what an edit marks
pub marking_of_lem : (v : View) (edit : Edit) → (edited v edit).marking ≡ marking_of edit
unfolding host_characters
marking_of_lem v Nothing = refl
marking_of_lem v (Put cell c) = refl
marking_of_lem v (Erase suppressed from end) = refl
marking_of_lem v (Shift s from end by) = refl
marking_of_lem v (Repeat zero c) = refl
marking_of_lem v (Repeat (suc n) c) = refl

-- ---- REPEAT

-- a host character keeps the attribute bytes
host_attrs : (v : View) (c : ℕ) → (host_character v c).view.attrs ≡ v.attrs
unfolding host_character
host_attrs v c = either (λ (e : Effect). e.view.attrs ≡ v.attrs) (cursor_guarded v) (λ t. refl) (λ t. refl)

-- so many host characters are one, and then one less
one_less : (k : ℕ) (v : View) (c : ℕ) → let rest = host_characters k (host_character v c).view c in
    host_characters (suc k) v c ≡ changing rest.view ((host_character v c).changes ++ rest.changes)
unfolding host_characters
one_less k v c = refl

-- n characters from a canvas on: what k more do from here is what they all do
pub record Repeating (b n : ℕ) (c₀ : Canvas) (k : ℕ) (c : Canvas) : Type 0 where
  pub kept : Kept c₀ c
  pub frame : c.frame ≡ placed c₀.frame c.frame.cursor
  pub all : {f' : Frame} {chars' : List ℕ}
      → Changes (host_characters k (view c.frame c₀.attrs.now) b) c.chars.now c₀.attrs.now f' chars'
      → Changes (host_characters n (shown c₀) b) c₀.chars.now c₀.attrs.now f' chars'

pub repeating_start : {b n k : ℕ} {c : Canvas} → k ≡ n → Repeating b n c k c
repeating_start e = rw e (record { kept = kept_none; frame = refl; all = λ d. d })

module _ {b n : ℕ} {c₀ : Canvas} {k : ℕ} {c : Canvas} (r : Repeating b n c₀ k c) where
  -- one more is done
  pub repeating_more : {j : ℕ} {c' : Canvas} → k ≡ suc j → Draws (host_character (shown c) b) c c' → Repeating b n c₀ j c'
  repeating_more {j} {c'} e done = record {
    kept = kept_on r.kept done.kept;
    frame = done.frame ∙ ap (λ (f : Frame). placed f c'.frame.cursor) r.frame;
    all = λ d.
        let one = rw r.kept.attrs at done.changes in
        let v = view c.frame c₀.attrs.now in
        let after : view c'.frame c₀.attrs.now ≡ (host_character v b).view =
        λ i. record { frame = one.frame i; attrs = sym (host_attrs v b) i } in
        let less = one_less j v b in
        r.all (record {
          frame = rw (e, less, ← after) d.frame;
          characters = rw (e, less, changed_append, ← after, ← one.characters) d.characters;
        });
  }

  -- none is left
  pub repeating_end : k ≤ 0 → Draws (host_characters n (shown c₀) b) c₀ c
  unfolding host_characters changed_all
  repeating_end h =
      let e : k ≡ 0 = omega arith in
      record { kept = r.kept; frame = r.frame; changes = r.all (rw e (record { frame = refl; characters = refl })) }

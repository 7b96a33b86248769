-- Laws of host data: it changes nothing of a frame but its cursor, and what is done so far is what the bytes so far do.
use Rattle.std.proofs.Common.{◌≡◌, refl, sym, ap, ◌∙◌, Bool, true, false, List, [], ◌∷◌, ◌++◌, append-nil, append_assoc, ℕ, ◌+◌, ◌≤◌, ◌<◌, add-one, eqb, length, get_or, take, take-suc, take_all}
use Rattle.words.proofs.Laws.{either, true_or_false}
use Rattle.rules.specs.declared.Frame.{Frame}
use Rattle.rules.specs.Session.{View, printable, view, with_cursor}
use Rattle.rules.specs.Effect.{Effect, changed_all, kept, changing}
use Rattle.rules.specs.Cursor.{cursor_guarded}
use Rattle.rules.specs.Telnet.{host_character, host_data, host_text}
use Rattle.rules.proofs.Characters.{changed_append}
use Rattle.decide.proofs.WriteLaws.{control_is}
use Rattle.text.specs.Text.{Changes, obeyed_bytes}
use Rattle.text.specs.Inner.Text.{passed_at, control_at, Texted}
use Rattle.text.proofs.JoinedLaws.{obeyed_next, obeyed_none, not_passed, printed_no_lf}

-- ---- one byte

-- an effect that changes nothing of a frame but its cursor, keeps the attribute bytes, and draws no reply
record Moves (v : View) (e : Effect) : Type 0 where
  moves : e.view ≡ with_cursor v e.view.frame.cursor
  only : e ≡ changing (view e.view.frame v.attrs) e.changes

data_does_lem : (v : View) (b : ℕ) → Moves v (host_data v b)
unfolding host_data host_character
data_does_lem v b =
    either (Moves v) (printable b)
    (λ t. either (Moves v) (cursor_guarded v) (λ g. record { moves = refl; only = refl }) (λ g. record { moves = refl; only = refl }))
    (λ t. either (Moves v) (eqb b 13) (λ p. record { moves = refl; only = refl })
    (λ p. either (Moves v) (eqb b 10) (λ q. record { moves = refl; only = refl })
    (λ q. either (Moves v) (eqb b 8) (λ r. record { moves = refl; only = refl }) (λ r. record { moves = refl; only = refl }))))

pub data_moves : (v : View) (b : ℕ) → let w = (host_data v b).view in w ≡ with_cursor v w.frame.cursor
data_moves v b = (data_does_lem v b).moves

pub data_only : (v : View) (b : ℕ) → let e = host_data v b in e ≡ changing (view e.view.frame v.attrs) e.changes
data_only v b = (data_does_lem v b).only

pub printed : (v : View) (b : ℕ) → printable b ≡ true → host_data v b ≡ host_character v b
unfolding host_data
printed v b p = rw p

-- ---- some bytes

-- they change nothing of a frame but its cursor
pub text_moves : (v : View) (xs : List ℕ) → let w = (host_text v xs).view in w ≡ with_cursor v w.frame.cursor
unfolding host_text
text_moves v [] = refl
text_moves v (x ∷ xs) =
    let one = (host_data v x).view in
    let w = (host_text one xs).view in
    text_moves one xs ∙ ap (λ (u : View). with_cursor u w.frame.cursor) (data_moves v x)

pub text_keeps : (v : View) (xs : List ℕ) → (host_text v xs).view.attrs ≡ v.attrs
text_keeps v xs = ap (λ (w : View). w.attrs) (text_moves v xs)

-- it marks nothing
pub text_marks : (v : View) (xs : List ℕ) → (host_text v xs).marking ≡ kept
unfolding host_text
text_marks v [] = refl
text_marks v (x ∷ xs) = refl

-- one byte after the others
text_next : (v : View) (xs : List ℕ) (b : ℕ) → let e = host_text v xs in let one = host_data e.view b in
    host_text v (xs ++ (b ∷ [])) ≡ changing one.view (e.changes ++ one.changes)
unfolding host_text
text_next v [] b = rw append-nil
text_next v (x ∷ xs) b = rw (text_next (host_data v x).view xs b, append_assoc)

-- so what some bytes do, and then one more
pub text_more : {attrs : List ℕ} (xs : List ℕ) (f₀ : Frame) {chars₀ : List ℕ} {f : Frame} {chars : List ℕ}
    → Changes (host_text (view f₀ attrs) xs) chars₀ attrs f chars → (b : ℕ) {f' : Frame} {chars' : List ℕ}
    → Changes (host_data (view f attrs) b) chars attrs f' chars'
    → Changes (host_text (view f₀ attrs) (xs ++ (b ∷ []))) chars₀ attrs f' chars'
text_more {attrs} xs f₀ {f = f} r b one =
    let after : view f attrs ≡ (host_text (view f₀ attrs) xs).view = λ i. view (r.frame i) (sym (text_keeps (view f₀ attrs) xs) i) in
    rw text_next (record {
      frame = rw (← after) one.frame;
      characters = rw (changed_append, ← after, ← r.characters) one.characters;
    })

pub texted_none : (attrs : List ℕ) (joins cr : Bool) (bytes : List ℕ) (f : Frame) (chars : List ℕ)
    → Texted attrs joins cr bytes f chars 0 f chars
unfolding host_text changed_all
texted_none attrs joins cr bytes f chars = record { done = rw (obeyed_none joins cr) (record { frame = refl; characters = refl }) }

module _ {attrs : List ℕ} {joins cr : Bool} {bytes : List ℕ} {f₀ : Frame} {chars₀ : List ℕ} {at : ℕ} {f : Frame} {chars : List ℕ}
    (r : Texted attrs joins cr bytes f₀ chars₀ at f chars) where
  -- a byte more, which is obeyed
  pub texted_more : {f' : Frame} {chars' : List ℕ} → at < length bytes → passed_at joins cr bytes at ≡ false
      → Changes (host_data (view f attrs) (get_or bytes at 0)) chars attrs f' chars'
      → Texted attrs joins cr bytes f₀ chars₀ (at + 1) f' chars'
  texted_more h p one = record {
    done = rw (add-one, take-suc bytes at 0 h, obeyed_next, p)
        (text_more (obeyed_bytes joins cr (take at bytes)) f₀ r.done (get_or bytes at 0) one);
  }

  -- or passed over
  texted_passed : at < length bytes → passed_at joins cr bytes at ≡ true → Texted attrs joins cr bytes f₀ chars₀ (at + 1) f chars
  texted_passed h p = record { done = rw (add-one, take-suc bytes at 0 h, obeyed_next, p, append-nil) r.done }

  -- a character more
  pub texted_character : {f' : Frame} {chars' : List ℕ} → at < length bytes → printable (get_or bytes at 0) ≡ true
      → Changes (host_character (view f attrs) (get_or bytes at 0)) chars attrs f' chars'
      → Texted attrs joins cr bytes f₀ chars₀ (at + 1) f' chars'
  texted_character h p one =
      texted_more h (not_passed joins cr bytes at (printed_no_lf (get_or bytes at 0) p)) (rw (printed (view f attrs) (get_or bytes at 0) p) one)

  -- no character
  pub texted_control : {f' : Frame} {chars' : List ℕ} → at < length bytes → printable (get_or bytes at 0) ≡ false
      → Changes (control_at (view f attrs) joins cr bytes at) chars attrs f' chars'
      → Texted attrs joins cr bytes f₀ chars₀ (at + 1) f' chars'
  unfolding changed_all
  texted_control h n one =
      true_or_false (passed_at joins cr bytes at)
      (λ t. let d = rw t at one in rw (d.frame, d.characters) (texted_passed h t))
      (λ t. texted_more h t (rw (control_is (view f attrs) (get_or bytes at 0) n) (rw t at one)))

  -- all of them
  pub texted_all : length bytes ≤ at → Changes (host_text (view f₀ attrs) (obeyed_bytes joins cr bytes)) chars₀ attrs f chars
  texted_all h = rw (take_all at bytes h) at r.done

-- Laws of characters in a row: what one copy does, or the last of them, is what they do one after the other.
use Rattle.std.proofs.Common.{◌≡◌, refl, sym, ap, ◌∙◌, Bool, true, false, List, ℕ, zero, suc, ◌+◌, ◌-◌, ◌≤◌, ◌<◌, not-suc-le-zero, arith, le-leb, lt-ltb, le-ltb, leb, eqb, length, get_or, set, take, drop, length-drop, get_or-drop, set-set}
use borrow.Author.Tests.{not-true}
use Rattle.std.proofs.lemmas.List.{get_or-take}
use lib.Seq.{paste, paste-zero, paste-suc}
use Rattle.screen.specs.Attributes.{protection, protected_at, guarded_at}
use Rattle.screen.specs.declared.cell.Place.{Place}
use Rattle.screen.specs.Cells.{place, cell_of}
use Rattle.edit.specs.Edits.{lies, Copied}
use Rattle.words.proofs.Laws.{true_or_false, less_or_not, both, get_d-within}
use Rattle.edit.proofs.EditLaws.{copied_whole}
use Rattle.rules.specs.declared.Frame.{Frame}
use Rattle.rules.specs.Session.{View, printable, placed, view}
use Rattle.rules.specs.Cursor.{cursor_guarded, destination, next_cell}
use Rattle.rules.specs.Effect.{changed, changed_all}
use Rattle.rules.specs.Telnet.{host_character}
use Rattle.text.specs.Text.{Changes}
use Rattle.text.specs.Inner.Text.{Texted, TextStep}
use Rattle.text.specs.Inner.Plain.{unguarded, Each, OpenRun, LastCounts}
use Rattle.text.proofs.TextLaws.{texted_character}

-- ---- bytes that pass a test

module _ {test : ℕ → Bool} {xs : List ℕ} {from : ℕ} where
  pub each_none : Each test xs from 0
  each_none = record { each = λ i h. absurd (not-suc-le-zero h) }

  module _ {n : ℕ} (p : Each test xs from n) where
    -- one more
    pub each_next : test (get_or xs (from + n) 0) ≡ true → Each test xs from (n + 1)
    each_next e = record { each = λ i h. less_or_not i n (p.each i) (λ k. let q : i ≡ n = omega arith in rw q e) }

    -- so many more, which may begin before the end of those
    pub each_on : {m : ℕ} (k : ℕ) → k ≤ n → Each test xs (from + k) m → Each test xs from (k + m)
    each_on k b q = record {
      each = λ i h. less_or_not i n (p.each i) (λ l.
          let a : from + k + (i - k) ≡ from + i = omega arith in
          rw a at (q.each (i - k) (omega arith)));
    }

    -- those after the first k
    pub each_after : (k : ℕ) → Each test xs (from + k) (n - k)
    each_after k = record { each = λ i h. let a : from + k + i ≡ from + (k + i) = omega arith in rw a (p.each (k + i) (omega arith)) }

-- the first two
pub each_two : {test : ℕ → Bool} {xs : List ℕ} {from : ℕ} → test (get_or xs from 0) ≡ true → test (get_or xs (from + 1) 0) ≡ true
    → Each test xs from 2
each_two {from = from} e f = let a : from + 0 ≡ from = omega arith in each_next (each_next each_none (rw a e)) f

-- and those after them
pub each_row : {test : ℕ → Bool} {xs : List ℕ} {from n : ℕ} → Each test xs from 2 → Each test xs (from + 2) n
    → Each test xs from (from + 2 + n - from)
each_row {from = from} {n} p q = let e : from + 2 + n - from ≡ 2 + n = omega arith in rw e (each_on p 2 (omega arith) q)

-- bytes of a part are bytes of the whole
pub each_part : {test : ℕ → Bool} {xs ys : List ℕ} {from n : ℕ} → ((i : ℕ) → i < n → get_or ys i 0 ≡ get_or xs (from + i) 0)
    → Each test ys 0 n → Each test xs from n
each_part {test} {ys = ys} e p = record {
  each = λ i h. let z : 0 + i ≡ i = omega arith in ap test (sym (e i h)) ∙ rw z at (p.each i h);
}

pub each_drop : {test : ℕ → Bool} {xs : List ℕ} {from n : ℕ} → Each test (drop from xs) 0 n → Each test xs from n
each_drop {xs = xs} {from} p = each_part (λ i h. get_or-drop from xs i 0) p

pub each_within : {test : ℕ → Bool} {xs : List ℕ} {from m n : ℕ} → Each test (take m (drop from xs)) 0 n → n ≤ m → Each test xs from n
each_within {xs = xs} {from} {m} p l = each_part (λ i h. get_or-take m (drop from xs) i 0 (omega arith) ∙ get_or-drop from xs i 0) p

-- ---- cells that are not guarded

pub free_each : (suppressed : Bool) {attrs : List ℕ} {cell n k : ℕ} → Each unguarded attrs cell n → n ≤ length attrs - cell
    → k < n → guarded_at suppressed attrs (cell + k) ≡ false
unfolding protected_at
free_each suppressed {attrs} {cell} {n} {k} p l h =
    let e = not-true (eqb (protection (get_or attrs (cell + k) 0)) 1) (p.each k h) in
    rw (get_d-within attrs (cell + k) 8 0 (omega arith), e) (true_or_false suppressed (λ t. rw t) (λ t. rw t))

-- ---- one character

-- on a cell that is not guarded and not its line's last
character : (f : Frame) {attrs chars : List ℕ} (b : ℕ)
    → guarded_at f.suppressed attrs (cell_of f.width f.cursor) ≡ false → f.cursor.x.0 + 1 < f.width
    → Changes (host_character (view f attrs) b) chars attrs (placed f (place (f.cursor.x.0 + 1) f.cursor.y.0))
    (set chars (cell_of f.width f.cursor) b)
unfolding host_character destination next_cell changed changed_all
character f b g l = rw (g, lt-ltb _ _ l) (record { frame = refl; characters = refl })

-- where the cursor stays: on a guarded cell, and at the last
pub stays_guarded : (v : View) → cursor_guarded v ≡ true → (b : ℕ) → (host_character v b).view ≡ v
unfolding host_character
stays_guarded v g b = rw g

pub stays_last : (v : View) → next_cell v.frame ≡ v.frame.cursor → (b : ℕ) → (host_character v b).view ≡ v
unfolding host_character destination
stays_last v e b = true_or_false (cursor_guarded v) (λ g. rw g) (λ g. rw (g, e))

pub last_cell : (f : Frame) → f.width ≤ f.cursor.x.0 + 1 → f.height ≤ f.cursor.y.0 + 1 → next_cell f ≡ f.cursor
unfolding next_cell
last_cell f w h = rw (le-ltb _ _ w, le-ltb _ _ h)

-- another one takes its place
overwritten : (v : View) (chars attrs : List ℕ) (a b : ℕ)
    → changed_all (changed_all chars attrs (host_character v a).changes) attrs (host_character v b).changes
    ≡ changed_all chars attrs (host_character v b).changes
unfolding host_character changed changed_all
overwritten v chars attrs a b = true_or_false (cursor_guarded v) (λ g. rw g) (λ g. rw g (set-set chars _ a b))

-- ---- a run

-- so many cells further on the line
abbrev after : Frame → ℕ → Frame
after f k = placed f (place (f.cursor.x.0 + k) f.cursor.y.0)

module _ {joins cr : Bool} {bytes : List ℕ} {f₀ : Frame} {chars₀ attrs : List ℕ} {at : ℕ} {f : Frame} {chars : List ℕ}
    (t : Texted attrs joins cr bytes f₀ chars₀ at f chars) where
  module _ {most n : ℕ} (r : OpenRun f attrs (length chars) most n) (p : Each printable bytes at most) (w : at + most ≤ length bytes) where
    -- the first of them
    first : (k : ℕ) → k ≤ n → {chars' : List ℕ} → chars' ≡ paste chars (cell_of f.width f.cursor) (drop at bytes) k
        → Texted attrs joins cr bytes f₀ chars₀ (at + k) (after f k) chars'
    first zero h {chars'} e =
        let q : chars' ≡ chars = e ∙ sym (paste-zero chars (cell_of f.width f.cursor) (drop at bytes)) in
        let a : at + 0 ≡ at = omega arith in
        let b : f.cursor.x.0 + 0 ≡ f.cursor.x.0 = omega arith in
        rw (q, a, b) t
    first (suc k) h {chars'} e =
        let cell = cell_of f.width f.cursor in
        let before = first k (omega arith) refl in
        let here : cell_of f.width (after f k).cursor ≡ cell + k = omega arith in
        let stored = paste-suc chars cell (drop at bytes) k 0 (omega (arith, r.characters))
        (omega (arith, length-drop at bytes, r.few)) in
        let a : at + suc k ≡ at + k + 1 = omega arith in
        let b : f.cursor.x.0 + suc k ≡ f.cursor.x.0 + k + 1 = omega arith in
        let now : chars' ≡ set (paste chars cell (drop at bytes) k) (cell_of f.width (after f k).cursor) (get_or bytes (at + k) 0) =
        e ∙ rw (here, ← get_or-drop at bytes k 0) (sym stored) in
        rw (a, b, now) (texted_character before (omega (arith, r.few)) (p.each k (omega (arith, r.few)))
        (character (after f k) (get_or bytes (at + k) 0) (rw here (r.free k (omega arith))) (omega (arith, r.line))))

    -- all of them, by one copy
    copied : (n ≡ 0 → ⊥) → {c : ℕ} → c ≡ cell_of f.width f.cursor → {chars' : List ℕ} {next : ℕ}
        → Copied bytes chars at (at + n) c chars' next → {p : Place} → p ≡ place (f.cursor.x.0 + n) f.cursor.y.0
        → Texted attrs joins cr bytes f₀ chars₀ (at + n) (placed f p) chars'
    copied z {c} q d e =
        let long : at + n - at ≡ n = omega arith in
        let inside = both (leb at (at + n)) (leb (at + n) (length bytes)) (le-leb at (at + n) (omega arith))
        (le-leb (at + n) (length bytes) (omega (arith, r.few))) in
        let room = le-leb (c + (at + n - at)) (length chars) (omega (arith, r.characters, q, z)) in
        let whole = (copied_whole d (both (lies at (at + n) bytes) (leb (c + (at + n - at)) (length chars)) inside room)).0 in
        rw e (first n (omega arith) (whole ∙ rw (long, q)))

  -- the last of some, where the cursor stays
  last : (k : ℕ) → Each printable bytes at (suc k) → at + suc k ≤ length bytes
      → (0 < k → (b : ℕ) → (host_character (view f attrs) b).view ≡ view f attrs) → {f' : Frame} {chars' : List ℕ}
      → Changes (host_character (view f attrs) (get_or bytes (at + k) 0)) chars attrs f' chars'
      → Texted attrs joins cr bytes f₀ chars₀ (at + suc k) f' chars'
  last zero p w s d =
      let a : at + 1 ≡ at + 0 + 1 = omega arith in
      let b : at + 0 ≡ at = omega arith in
      let here : Texted attrs joins cr bytes f₀ chars₀ (at + 0) f chars = rw b t in
      rw a (texted_character here (omega arith) (p.each 0 (omega arith)) d)
  last (suc k) p w s d =
      let v = view f attrs in
      let stays = s (omega arith) in
      let one = get_or bytes (at + k) 0 in
      let two = get_or bytes (at + suc k) 0 in
      let before = last k (record { each = λ i h. p.each i (omega arith) }) (omega arith) (λ h. stays)
      (record { frame = ap (λ (w : View). w.frame) (sym (stays one)); characters = refl }) in
      let a : at + suc (suc k) ≡ at + suc k + 1 = omega arith in
      rw a (texted_character before (omega arith) (p.each (suc k) (omega arith))
      (record { frame = d.frame; characters = d.characters ∙ sym (overwritten v chars attrs one two) }))

-- ---- steps

module _ {attrs bytes : List ℕ} {from at : ℕ} {g : Frame} {gs : List ℕ} {f : Frame} {chars : List ℕ}
    (s : TextStep attrs bytes from g gs at f chars) {end : ℕ} (p : Each printable bytes from (end - from)) (a : from ≤ at) (h : at < end)
    (w : end ≤ length bytes) where
  rest : Each printable bytes at (end - at)
  rest =
      let b : from + (at - from) ≡ at = omega arith in
      let c : end - from - (at - from) ≡ end - at = omega arith in
      rw (b, c) at (each_after p (at - from))

  pub step_copied : {n : ℕ} → OpenRun f attrs (length chars) (end - at) n → (n ≡ 0 → ⊥) → {c : ℕ} → c ≡ cell_of f.width f.cursor
      → {chars' : List ℕ} {next : ℕ} → Copied bytes chars at (at + n) c chars' next → {p : Place}
      → p ≡ place (f.cursor.x.0 + n) f.cursor.y.0 → TextStep attrs bytes from g gs (at + n) (placed f p) chars'
  step_copied r z q d e = record { on = λ joins cr f₀ chars₀ t. copied (s.on joins cr f₀ chars₀ t) r rest (omega arith) z q d e }

  pub step_last : {next : ℕ} → LastCounts (view f attrs) at end next → {f' : Frame} {chars' : List ℕ}
      → Changes (host_character (view f attrs) (get_or bytes (next - 1) 0)) chars attrs f' chars'
      → TextStep attrs bytes from g gs next f' chars'
  step_last {next} l d =
      let k = next - 1 - at in
      let i : next - 1 ≡ at + k = omega (arith, l.further) in
      let j : next ≡ at + suc k = omega (arith, l.further) in
      let few : Each printable bytes at (suc k) = record { each = λ i h. rest.each i (omega (arith, l.within)) } in
      record {
        on = λ joins cr f₀ chars₀ t. rw j (last (s.on joins cr f₀ chars₀ t) k few (omega (arith, l.within)) (λ h. l.stays (omega arith))
            (rw i at d));
      }

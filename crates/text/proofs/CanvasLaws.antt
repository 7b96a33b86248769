-- Laws of a canvas: one byte more, or a row of characters, after what is done so far.
use Rattle.std.proofs.Common.{◌≡◌, refl, ap, ◌∙◌, Bool, List, ℕ, ◌-◌, ◌+◌, ◌≤◌, ◌<◌, true, false, length, get_or}
use Rattle.screen.specs.declared.cell.Place.{Place}
use Rattle.screen.specs.Cells.{place, cell_of}
use Rattle.edit.specs.Edits.{Copied}
use Rattle.rules.specs.Session.{View, printable, placed, view}
use Rattle.rules.specs.Effect.{Effect, changed_all, quiet}
use Rattle.rules.specs.Telnet.{host_character, host_data, host_text}
use Rattle.text.specs.declared.canvas.Canvas.{Canvas}
use Rattle.text.specs.Text.{obeyed_bytes}
use Rattle.text.specs.Canvas.{shown, Kept, Draws}
use Rattle.text.specs.Inner.Text.{control_at, passed_at}
use Rattle.text.specs.Inner.Canvas.{at_place, Drawn, DrawStep}
use Rattle.text.specs.Inner.Plain.{Each, OpenRun, LastCounts}
use Rattle.text.proofs.PlainLaws.{step_copied, step_last}
use Rattle.text.proofs.TextLaws.{text_moves, texted_none, texted_more, texted_character, texted_control, texted_all}

pub kept_none : {c : Canvas} → Kept c c
kept_none = record { buffer = refl; attrs = refl }

pub kept_on : {c₀ c c' : Canvas} → Kept c₀ c → Kept c c' → Kept c₀ c'
kept_on k l = record { buffer = l.buffer ∙ k.buffer; attrs = l.attrs ∙ k.attrs }

-- an effect that moves the cursor at most
pub drawn_at : {e : Effect} {c : Canvas} (p : Place) → e ≡ quiet (view (placed c.frame p) c.attrs.now) → Draws e c (at_place c p)
unfolding changed_all
drawn_at p q = record { kept = record { buffer = refl; attrs = refl }; frame = refl; changes = rw q (record { frame = refl; characters = refl }) }

-- ---- a row of characters

-- the canvas with other characters
abbrev with_chars : Canvas → List ℕ → Canvas
with_chars c chars' = record c { chars = record c.chars { now = chars' } }

module _ {bytes : List ℕ} {from at : ℕ} {c₀ c : Canvas} (s : DrawStep bytes from c₀ at c) {end : ℕ}
    (p : Each printable bytes from (end - from)) (a : from ≤ at) (h : at < end) (w : end ≤ length bytes) where
  pub row_last : {next : ℕ} {c' : Canvas} → LastCounts (shown c) at end next
      → Draws (host_character (shown c) (get_or bytes (next - 1) 0)) c c' → DrawStep bytes from c₀ next c'
  row_last l d = record {
    kept = kept_on s.kept d.kept;
    step = step_last s.step p a h w (rw s.kept.attrs at l) (rw s.kept.attrs at d.changes);
  }

  pub row_copied : {n : ℕ} → OpenRun c.frame c.attrs.now (length c.chars.now) (end - at) n → (n ≡ 0 → ⊥) → {cell : ℕ}
      → cell ≡ cell_of c.frame.width c.frame.cursor → {chars' : List ℕ} {next : ℕ}
      → Copied bytes c.chars.now at (at + n) cell chars' next → {c' : Canvas}
      → c' ≡ at_place (with_chars c chars') (place (c.frame.cursor.x.0 + n) c.frame.cursor.y.0) → DrawStep bytes from c₀ (at + n) c'
  row_copied o z q d e = rw e (record {
    kept = record { buffer = s.kept.buffer; attrs = s.kept.attrs };
    step = step_copied s.step p a h w (rw s.kept.attrs at o) z q d refl;
  })

-- ---- one byte more

module _ {joins cr : Bool} {bytes : List ℕ} {c₀ : Canvas} where
  pub drawn_none : Drawn joins cr bytes c₀ 0 c₀
  drawn_none = record { kept = kept_none; done = texted_none _ joins cr bytes _ _ }

  module _ {at : ℕ} {c : Canvas} (r : Drawn joins cr bytes c₀ at c) where
    -- one that is obeyed
    pub drawn_more : {c' : Canvas} → at < length bytes → passed_at joins cr bytes at ≡ false
        → Draws (host_data (shown c) (get_or bytes at 0)) c c' → Drawn joins cr bytes c₀ (at + 1) c'
    drawn_more h p d = record { kept = kept_on r.kept d.kept; done = texted_more r.done h p (rw r.kept.attrs at d.changes) }

    -- a character
    pub drawn_character : {c' : Canvas} → at < length bytes → printable (get_or bytes at 0) ≡ true
        → Draws (host_character (shown c) (get_or bytes at 0)) c c' → Drawn joins cr bytes c₀ (at + 1) c'
    drawn_character h p d = record { kept = kept_on r.kept d.kept; done = texted_character r.done h p (rw r.kept.attrs at d.changes) }

    -- no character
    pub drawn_control : {c' : Canvas} → at < length bytes → printable (get_or bytes at 0) ≡ false
        → Draws (control_at (shown c) joins cr bytes at) c c' → Drawn joins cr bytes c₀ (at + 1) c'
    drawn_control h n d = record { kept = kept_on r.kept d.kept; done = texted_control r.done h n (rw r.kept.attrs at d.changes) }

    -- a row of them
    pub drawn_row : {end : ℕ} {c' : Canvas} → DrawStep bytes at c end c' → Drawn joins cr bytes c₀ end c'
    drawn_row d = record {
      kept = kept_on r.kept d.kept;
      done = (rw r.kept.attrs at d.step).on joins cr c₀.frame c₀.chars.now r.done;
    }

    -- all of them
    pub drawn_all : length bytes ≤ at → Draws (host_text (shown c₀) (obeyed_bytes joins cr bytes)) c₀ c
    drawn_all h =
        let t = texted_all r.done h in
        let m = ap (λ (w : View). w.frame) (text_moves (shown c₀) (obeyed_bytes joins cr bytes)) in
        record { kept = r.kept; frame = rw (← t.frame) at m; changes = t }

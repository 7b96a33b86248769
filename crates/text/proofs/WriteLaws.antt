-- Laws of writing a character: what its fate does to the characters.
use Rattle.std.proofs.Common.{◌≡◌, refl, ◌∙◌, List, [], ◌∷◌, ℕ, set}
use Rattle.rules.specs.Session.{View, placed, cursor_cell, with_cursor}
use Rattle.rules.specs.Effect.{put, changed, changed_all, changing, quiet}
use Rattle.rules.specs.Telnet.{host_character}
use Rattle.decide.specs.declared.text.Writer.TheVariants.{Host}
use Rattle.decide.specs.declared.text.Fate.TheVariants.{Written}
use Rattle.decide.specs.declared.text.Writing.{Writing}
use Rattle.decide.specs.Writing.{place_after, after_fate, Writes}
use Rattle.decide.specs.Inner.Writing.{if_written}
use Rattle.decide.proofs.WriteLaws.{by_fate, not_written}
use Rattle.text.specs.Text.{Changes}

module _ {v : View} {c : ℕ} {w : Writing} (one : Writes v Host c w) where
  host_by_fate : host_character v c
      ≡ if_written w.fate (changing (with_cursor v (place_after Host v)) (put (cursor_cell v) c ∷ [])) (quiet v)
  host_by_fate = by_fate v c ∙ rw (← one.fate)

  -- not written, it changes nothing
  pub unwritten : {chars : List ℕ} → (w.fate ≡ Written → ⊥)
      → Changes (host_character v c) chars v.attrs v.frame chars
  unfolding changed_all
  unwritten h = rw (host_by_fate, not_written w.fate h) (record { frame = refl; characters = refl })

  -- written, it stands in the cursor's cell
  pub written : {cell : ℕ} {chars chars' : List ℕ} → w.fate ≡ Written → cell ≡ cursor_cell v → chars' ≡ set chars cell c
      → Changes (host_character v c) chars v.attrs (placed v.frame w.cursor) chars'
  unfolding if_written after_fate changed changed_all
  written e p q = rw (host_by_fate, one.cursor, e) (record { frame = refl; characters = q ∙ rw p })

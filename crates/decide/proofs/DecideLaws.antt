-- Laws of decisions: what meets `Decides`, and which cells are the screen's.
use Rattle.std.proofs.Common.{◌≡◌, sym, ◌∙◌, Bool, true, ℕ, ◌-◌, ◌≤◌, ◌<◌, min, arith, length, lt-ltb, eq-eqb, Some, None, if◌then◌else◌}
use Rattle.std.proofs.lemmas.Option.{none-some}
use Rattle.screen.specs.Cells.{cell_of}
use Rattle.screen.specs.Fields.{first_from, last_before}
use Rattle.screen.proofs.CellLaws.{cell_lt}
use Rattle.words.proofs.Laws.{true_or_false}
use Rattle.screen.proofs.WordLaws.{first_below, last_below}
use Rattle.rules.specs.declared.Frame.{Frame}
use Rattle.rules.specs.Session.{View, cells}
use Rattle.rules.specs.Effect.{Effect}
use Rattle.decide.specs.declared.decision.Edit.TheVariants.{Nothing}
use Rattle.decide.specs.declared.decision.Say.TheVariants.{Silent}
use Rattle.decide.specs.declared.decision.Decision.{Decision}
use Rattle.command.specs.Frame.{fitting}
use Rattle.command.specs.Inner.Frame.{OnScreen, Fits}
use Rattle.decide.specs.Decision.{meant, shown, Sendable, Decides, where_fits}
use Rattle.decide.specs.Inner.Decision.{decision}

-- a decision that is known: its text lies on the screen, and it means what the rule says
pub decides : {v : View} {d e : Decision} {rule : View → Effect} → d ≡ e → Sendable v.attrs e.say → meant v.attrs e ≡ shown (rule v)
    → Decides v d rule
decides p s m = rw p (record { meaning = m; sendable = s })

-- what is decided by one rule is decided by another that says the same
pub recast : {v : View} {d : Decision} {rule other : View → Effect} → Decides v d rule → shown (rule v) ≡ shown (other v) → Decides v d other
recast by same = record { meaning = by.meaning ∙ same; sendable = by.sendable }

-- the cursor is on one of the screen's cells
pub cursor_lt : {f : Frame} → OnScreen f → cell_of f.width f.cursor < cells f
cursor_lt h = cell_lt h.x h.y

-- a scan finds one, if what it answers where it finds none is one
module _ {v : View} (h : Fits v) (test : ℕ → Bool) (i none : ℕ) (below : none < cells v.frame) where
  pub first_lt : i ≤ length v.attrs → first_from test v.attrs i none < cells v.frame
  first_lt q = first_below test none i (length v.attrs - i) (cells v.frame) (omega (arith, h.long)) below

  pub last_lt : last_before test v.attrs i none < cells v.frame
  last_lt = last_below test none (min i (length v.attrs)) (cells v.frame) (omega (arith, h.long)) below

-- ---- any view

same_view : {w v : View} → Some w ≡ Some v → w ≡ v
same_view e = cc

module _ {v : View} where
  found_fits : Fits v → fitting v ≡ true
  found_fits h = rw (lt-ltb _ _ h.on.x, lt-ltb _ _ h.on.y, eq-eqb _ _ h.long)

  module _ {d : Decision} (rule : View → Effect) where
    -- a decision where there is a view, and where there is none
    pub where_some : {w : View} → Some w ≡ (if fitting v then Some v else None) → Decides w d rule → Decides v d (where_fits rule)
    unfolding where_fits
    where_some {w} e by =
        true_or_false (fitting v) (λ f. let same : w ≡ v = same_view (e ∙ rw f) in recast (rw same at by) (rw f))
        (λ f. absurd (none-some w (sym (e ∙ rw f))))

    pub where_none : None ≡ (if fitting v then Some v else None) → d ≡ decision v.frame Nothing Silent → Decides v d (where_fits rule)
    unfolding where_fits
    where_none e q =
        true_or_false (fitting v) (λ f. absurd (none-some v (e ∙ rw f))) (λ f. decides q tt (rw f))

    -- what a caller who knows that the view fits has
    pub fits_rule : Fits v → Decides v d (where_fits rule) → Decides v d rule
    unfolding where_fits
    fits_rule h by = recast by (rw (found_fits h))

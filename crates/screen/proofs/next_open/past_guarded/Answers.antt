use Rattle.std.proofs.Common.{◌≡◌, ◌∙◌, Bool, List, ℕ, ◌+◌, ◌*◌, ◌≤◌, ◌<◌, arith, length}
use Rattle.screen.specs.Cells.{cell_of, place_or_origin}
use Rattle.screen.specs.Inner.Skips.{NoneIn, PastGuarded}
use Rattle.screen.specs.declared.cell.Place.{Place}
use Rattle.screen.specs.declared.scan.Target.TheVariants.{Open}
use Rattle.screen.proofs.CellLaws.{next_line, cell_of_place, place_on_screen, place_whole}
use Rattle.screen.proofs.next_open.past_guarded.Goals as goal

reached : {suppressed : Bool} {attrs : List ℕ} {width height : ℕ} {p r : Place} {k : ℕ} → 0 < width → height < 256
    → length attrs ≡ height * width → cell_of width p + 1 ≤ k → k ≤ length attrs → NoneIn attrs (Open suppressed) (cell_of width p + 1) k
    → r ≡ place_or_origin width k → PastGuarded suppressed attrs width height p r
reached {suppressed} {attrs} {width} {height} {p} {r} {k} some few size a b none e =
    let below : k < (height + 1) * width = omega (arith, next_line height width) in
    let on = place_on_screen width (height + 1) k below in
    let cell = cell_of_place width k in
    rw (e ∙ place_whole width (height + 1) k below (omega arith))
    (record {
      column = on.0;
      line = omega (arith, on.1);
      after = rw cell a;
      within = rw cell b;
      guarded = rw cell none;
    })

pub returns : goal.returns
returns c =
    let p = c.past-cell.ensures in
    let e = c.cell_of.ensures in
    reached {k = c.past-cell.result} (omega (arith, c.requires.0)) (omega arith) c.requires.2 (rw (← e) p.0) p.1 (rw (← e) p.2)
    c.place_of.ensures

-- The scan for the next open cell, by lines and positions. The invariant of both loops: the answer is the first open cell from x,y on.
use Rattle.std.proofs.Common.{◌≡◌, sym, Bool, not, List, ℕ, ◌+◌, ◌*◌, ◌≤◌, ◌<◌, mul-le-mul_right, arith, length}
use Rattle.screen.specs.Cells.{cell_of, place_of}
use Rattle.screen.specs.Attributes.{guarded_at}
use Rattle.screen.specs.Fields.{first_from}
use Rattle.screen.specs.Scans.{is_target, next_open}
use Rattle.screen.specs.Inner.Skips.{PastGuarded}
use Rattle.screen.specs.declared.cell.Place.{Place}
use Rattle.screen.proofs.WordLaws.{first_end, first_hit, first_skip}
use Rattle.screen.proofs.CellLaws.{next_line, place_of_cell}
use Rattle.screen.proofs.SkipLaws.{first_past_none}

abbrev pub is_open : Bool → List ℕ → ℕ → Bool
is_open suppressed attrs i = not (guarded_at suppressed attrs i)

-- what is known of the scan for p as it comes to x,y
pub record Seeking (suppressed : Bool) (attrs : List ℕ) (width height : ℕ) (p : Place) (x y : ℕ) : Type 0 where
  pub size : length attrs ≡ height * width
  pub start : p.x.0 < width
  pub column : x ≤ width
  pub answer : next_open suppressed attrs (cell_of width p) ≡ first_from (is_open suppressed attrs) attrs (y * width + x) (cell_of width p)

module _ {suppressed : Bool} {attrs : List ℕ} {width height : ℕ} {p : Place} where
  pub begins : p.x.0 < width → length attrs ≡ height * width → {r : Place} → PastGuarded suppressed attrs width height p r
      → Seeking suppressed attrs width height p r.x.0 r.y.0
  unfolding next_open is_target
  begins h e g = record {
    size = e;
    start = h;
    column = omega (arith, g.column);
    answer = first_past_none (cell_of width p) (length attrs) g.guarded g.after g.within;
  }

  module _ {x y : ℕ} (s : Seeking suppressed attrs width height p x y) where
    pub ends : height ≤ y → p ≡ place_of width (next_open suppressed attrs (cell_of width p))
    ends h =
        let over : length attrs ≤ y * width + x = omega (arith, mul-le-mul_right width h) in
        sym (rw (s.answer, first_end (is_open suppressed attrs) (cell_of width p) (y * width + x) (length attrs) over)
        (place_of_cell width p.x.0 p.y.0 s.start))

-- the steps of the scan
pub ruleset scanning = (first_hit, first_skip, place_of_cell, begins, ends)

-- What the scans of the screen look for, and the cells that document 01 names by them.
use Rattle.std.specs.Prelude.{Bool, not, ◌&&◌, List, ℕ, ◌+◌, ◌*◌, eqb, length, if◌then◌else◌}
use Rattle.screen.specs.Cells.{cell_of, place_of, on_screen}
use Rattle.screen.specs.Attributes.{guarded_at}
use Rattle.screen.specs.Fields.{starts_at, opens_at, first_from}
use Rattle.screen.specs.declared.cell.Place.{Place}
use Rattle.screen.specs.declared.scan.Target.{Target}
use Rattle.screen.specs.declared.scan.Target.TheVariants.{FieldStart, UnprotectedStart, Open}

unfoldable pub is_target : List ℕ → Target → ℕ → Bool
is_target attrs FieldStart i = starts_at attrs i
is_target attrs UnprotectedStart i = opens_at attrs i
is_target attrs (Open suppressed) i = not (guarded_at suppressed attrs i)

-- "Keys": the next cell that is not guarded; none, the cursor stays
unfoldable pub next_open : Bool → List ℕ → ℕ → ℕ
next_open suppressed attrs cursor = first_from (λ i. not (guarded_at suppressed attrs i)) attrs (cursor + 1) cursor

-- What the code answers for every place: nothing moves where the place is not on a screen of this size.
unfoldable pub next_open_place : Bool → List ℕ → ℕ → ℕ → Place → Place
next_open_place suppressed attrs width height p =
    if on_screen width height p && eqb (length attrs) (height * width)
    then place_of width (next_open suppressed attrs (cell_of width p))
    else p

-- Laws of cells and places: cell x,y of a screen m cells wide and n lines high stands at y * m + x.
use Rattle.std.proofs.Common.{◌≡◌, ◌∙◌, true, ℕ, zero, suc, ◌+◌, ◌*◌, ◌/◌, ◌%◌, ◌≤◌, ◌<◌, add-zero, mul-zero, suc-mul, mul-le-mul, mul-le-mul_right, mod-lt, mod-eq_of_lt, div-add-mod', div-lt_iff_lt-mul, add-one, arith, lt-ltb, ltb-true, ltb}
use native.Mathlib.Nat.{mul-add-div_right, mul-add-mod_self_right, div-eq_of_lt}
use Rattle.screen.specs.Cells.{place, cell_of, place_of, on_screen, place_or_origin}
use Rattle.screen.specs.declared.cell.Place.{Place}
use Rattle.words.proofs.Laws.{and_left, and_right}

-- where the next line starts
pub next_line : (y m : ℕ) → (y + 1) * m ≡ y * m + m
next_line y m = rw add-one (suc-mul y m)

-- a line ends within the screen
pub line_within : (m : ℕ) {y n : ℕ} → y < n → y * m + m ≤ n * m
line_within m {y} {n} h = omega (arith, suc-mul y m, mul-le-mul_right {m = suc y} {n = n} m h)

-- a place on the screen has one of its cells
pub cell_lt : {x y m n : ℕ} → x < m → y < n → y * m + x < n * m
cell_lt {x} {y} {m} {n} hx hy = omega (arith, line_within m hy)

-- no screen has more than 64 lines of 132 cells
pub cells_few : {m n : ℕ} → m ≤ 132 → n ≤ 64 → n * m ≤ 8448
cells_few hm hn = mul-le-mul hn hm

-- the product of two bytes
pub byte_product : {a b : ℕ} → a < 256 → b < 256 → a * b ≤ 65025
byte_product {a} {b} ha hb = mul-le-mul {n₂ = 255} {m₂ = 255} (omega arith) (omega arith)

-- the place of a cell, and the cell of a place
pub place_of_cell : (m x y : ℕ) → x < m → place_of m (y * m + x) ≡ place x y
place_of_cell m x y h =
    let p : (y * m + x) % m ≡ x = mul-add-mod_self_right y m x ∙ mod-eq_of_lt h in
    let q : (y * m + x) / m ≡ y = mul-add-div_right (omega arith) y x ∙ rw (div-eq_of_lt h, add-zero) in
    simp (p, q)

pub cell_of_place : (m k : ℕ) → cell_of m (place_of m k) ≡ k
cell_of_place m k = div-add-mod' k m

-- the test tells the bounds
pub on_screen_lem : (m n : ℕ) (p : Place) → on_screen m n p ≡ true → (p.x.0 < m) × (p.y.0 < n)
on_screen_lem m n p e = (ltb-true _ _ (and_left _ _ e), ltb-true _ _ (and_right (ltb p.x.0 m) _ e))

-- the place of one of the screen's cells is on the screen
pub place_on_screen : (m n k : ℕ) → k < n * m → ((place_of m k).x.0 < m) × ((place_of m k).y.0 < n)
place_on_screen zero n k h = absurd (omega (arith, mul-zero n))
place_on_screen (suc m) n k h = (mod-lt k (omega arith), (div-lt_iff_lt-mul {k = suc m} {x = k} {y = n} (omega arith)).1 h)

-- and a byte can number its line
pub place_whole : (m n k : ℕ) → k < n * m → n ≤ 256 → place_or_origin m k ≡ place_of m k
unfolding place_or_origin
place_whole m n k h b = rw (lt-ltb k (256 * m) (omega (arith, mul-le-mul_right m b)))

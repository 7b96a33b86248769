-- Ranges of cells, and the first and the last number that passes a test.
use Rattle.std.specs.Prelude.{Bool, ◌&&◌, ℕ, zero, suc, ◌-◌, leb, ltb, if◌then◌else◌}

-- from a cell up to another, that one excluded: how every range of cells is given
abbrev pub in_range : ℕ → ℕ → ℕ → Bool
in_range from end i = leb from i && ltb i end

-- the first that passes of the n numbers from i on; none where none does
unfoldable pub first_of : (ℕ → Bool) → ℕ → ℕ → ℕ → ℕ
first_of test none i zero = none
first_of test none i (suc n) = if test i then i else first_of test none (suc i) n

-- some number from one up to another, that one excluded, passes: the first that does is below it
abbrev pub some_in : (ℕ → Bool) → ℕ → ℕ → Bool
some_in test from end = ltb (first_of test end from (end - from)) end

-- the last that passes of the n numbers from 0 on; none where none does
unfoldable pub last_of : (ℕ → Bool) → ℕ → ℕ → ℕ
last_of test none zero = none
last_of test none (suc n) = if test n then n else last_of test none n

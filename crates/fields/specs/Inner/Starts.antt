-- How many fields start.
use Rattle.std.specs.Prelude.{List, ℕ, zero, suc, if◌then◌else◌}
use Rattle.screen.specs.Fields.{starts_at}

-- as many fields start before a cell
unfoldable pub starts_before : List ℕ → ℕ → ℕ
starts_before attrs zero = 0
starts_before attrs (suc i) = if starts_at attrs i then suc (starts_before attrs i) else starts_before attrs i

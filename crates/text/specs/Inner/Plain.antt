-- Characters from the host, in a row: those that go into their cells by one copy, and those of which only the last counts.
use Rattle.std.specs.Prelude.{◌≡◌, Bool, true, false, not, List, ℕ, ◌+◌, ◌-◌, ◌≤◌, ◌<◌, eqb, get_or}
use Rattle.screen.specs.Attributes.{protection, guarded_at}
use Rattle.screen.specs.Cells.{cell_of}
use Rattle.rules.specs.declared.Frame.{Frame}
use Rattle.rules.specs.Session.{View}
use Rattle.rules.specs.Telnet.{host_character}

-- the attribute byte of a cell that is not protected
abbrev pub unguarded : ℕ → Bool
unguarded attr = not (eqb (protection attr) 1)

-- n bytes from a place on pass a test
pub record Each (test : ℕ → Bool) (xs : List ℕ) (from n : ℕ) : Type 0 where
  pub each : (i : ℕ) → i < n → test (get_or xs (from + i) 0) ≡ true

-- n cells from the cursor on, on its line before the last cell, are not guarded
pub record OpenRun (f : Frame) (attrs : List ℕ) (cells most n : ℕ) : Type 0 where
  pub few : n ≤ most
  pub line : n ≤ f.width - (f.cursor.x.0 + 1)
  pub characters : n ≤ cells - cell_of f.width f.cursor
  pub free : (k : ℕ) → k < n → guarded_at f.suppressed attrs (cell_of f.width f.cursor + k) ≡ false

-- one character from `at` on, or all up to r where the cursor stays
pub record LastCounts (v : View) (at end r : ℕ) : Type 0 where
  pub further : at < r
  pub within : r ≤ end
  pub stays : (at + 1 < r) → (b : ℕ) → (host_character v b).view ≡ v

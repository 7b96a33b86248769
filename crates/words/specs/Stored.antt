-- Bytes stored in a lent buffer, one after the other from a place on.
use Rattle.std.specs.Prelude.{◌≡◌, List, ℕ, ◌+◌, ◌≤◌, length}
use Rattle.std.proofs.lemmas.List.Edits.{sets}

-- the bytes fit into buf from `at` on
abbrev pub Room : List ℕ → ℕ → List ℕ → Type 0
Room buf at bytes = at + length bytes ≤ length buf

-- From buf, the bytes were stored from `at` on, which gives buf' and the next place at'. What lies past the buffer's end is not stored.
pub record Emitted (buf : List ℕ) (at : ℕ) (bytes : List ℕ) (buf' : List ℕ) (at' : ℕ) : Type 0 where
  pub next : at' ≡ at + length bytes
  pub stored : buf' ≡ sets buf at bytes

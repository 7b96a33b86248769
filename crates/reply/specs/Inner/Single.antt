-- Fields of one cell each, in a row.
use Rattle.std.specs.Prelude.{◌≡◌, Bool, true, false, List, [], ◌∷◌, ◌++◌, ℕ, zero, suc, ◌+◌, ◌≤◌, ◌<◌, length}
use Rattle.screen.specs.Fields.{opens_at}
use Rattle.reply.specs.Pieces.{text_piece, separator_pieces}

-- the n of them from a cell on, none of which is the first of all
unfoldable pub single_pieces : ℕ → List ℕ → ℕ → ℕ → List (List ℕ)
single_pieces code chars cell zero = []
single_pieces code chars cell (suc n) =
    separator_pieces code false ++ (text_piece cell (cell + 1) chars ∷ single_pieces code chars (suc cell) n)

-- an unprotected field starts at each of the n cells after this one
pub record EachOpens (attrs : List ℕ) (cell n : ℕ) : Type 0 where
  pub opens : (k : ℕ) → cell < k → k ≤ cell + n → opens_at attrs k ≡ true

-- thirty-two of them start at the cell, and there is room for them
pub record Singles (chars : ℕ) (attrs : List ℕ) (room cell at : ℕ) (first : Bool) : Type 0 where
  pub later : first ≡ false
  pub characters : cell + 32 ≤ chars
  pub cells : cell + 33 ≤ length attrs
  pub fit : at + 224 ≤ room
  pub after : EachOpens attrs cell 32

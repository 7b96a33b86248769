-- Document 01, "Subcommands", and document 02, request (v): what becomes of the characters, attribute bytes and marks of a range of
-- cells, from `from` up to `end`, that one excluded.
use Rattle.std.specs.Prelude.{◌≡◌, Bool, not, ◌&&◌, List, ◌++◌, ℕ, ◌+◌, ◌-◌, leb, ltb, eqb, length, get_or, take, drop, if◌then◌else◌}
use Rattle.std.proofs.Math.Seq.{paste}
use Rattle.edit.specs.declared.range.Shift.{Shift}
use Rattle.edit.specs.declared.range.Shift.TheVariants.{Insertion, Deletion}
use Rattle.words.specs.Words.{tabulate}
use Rattle.screen.specs.Words.{in_range, some_in}
use Rattle.screen.specs.Attributes.{guarded_at}

-- 14 and 16, line and char delete: the part moves `by` cells towards its start, and spaces come in at its end
abbrev pub deleted_cell : ℕ → List ℕ → ℕ → ℕ
deleted_cell by part i = get_or part (i + by) 32

unfoldable pub deleted : ℕ → List ℕ → List ℕ
deleted by part = tabulate (deleted_cell by part) 0 (length part)

-- 13 and 15, line and char insert: the part moves `by` cells towards its end, its last characters are lost, and spaces come in at its start
abbrev pub inserted_cell : ℕ → List ℕ → ℕ → ℕ
inserted_cell by part i = if ltb i by then 32 else get_or part (i - by) 32

unfoldable pub inserted : ℕ → List ℕ → List ℕ
inserted by part = tabulate (inserted_cell by part) 0 (length part)

-- the one or the other
unfoldable pub shifted : Shift → ℕ → List ℕ → List ℕ
shifted Insertion by part = inserted by part
shifted Deletion by part = deleted by part

-- the range lies in the list
abbrev pub lies : ℕ → ℕ → List ℕ → Bool
lies from end xs = leb from end && leb end (length xs)

-- The characters, their part in the range changed and nothing outside it. Nothing happens where the range is not in the list.
unfoldable pub on_part : ℕ → ℕ → (List ℕ → List ℕ) → List ℕ → List ℕ
on_part from end edit chars =
    if lies from end chars then take from chars ++ (edit (take (end - from) (drop from chars)) ++ drop end chars) else chars

-- 29 to 35: spaces in the cells of the range that are not guarded. (29 erases as while suppressed, 35 as while in effect.)
abbrev pub erased_cell : Bool → List ℕ → List ℕ → ℕ → ℕ → ℕ → ℕ
erased_cell suppressed chars attrs from end i =
    if in_range from end i && not (guarded_at suppressed attrs i) then 32 else get_or chars i 32

unfoldable pub erased : Bool → List ℕ → List ℕ → ℕ → ℕ → List ℕ
erased suppressed chars attrs from end = tabulate (erased_cell suppressed chars attrs from end) 0 (length chars)

-- 36, format data, and the marks of request (v): the cells of the range take the byte
abbrev pub filled_cell : ℕ → ℕ → ℕ → List ℕ → ℕ → ℕ
filled_cell from end byte bytes i = if in_range from end i then byte else get_or bytes i 0

unfoldable pub filled : ℕ → ℕ → ℕ → List ℕ → List ℕ
filled from end byte bytes = tabulate (filled_cell from end byte bytes) 0 (length bytes)

-- 27: the document's term "marked", a cell whose mark is 1; and a range with such a cell
abbrev pub marked_at : List ℕ → ℕ → Bool
marked_at marks i = eqb (get_or marks i 0) 1

unfoldable pub some_marked : List ℕ → ℕ → ℕ → Bool
some_marked marks from end = some_in (marked_at marks) from end

-- 20 to 26: the text of the cells of the range, as it stands in a reply
abbrev pub text_of : ℕ → ℕ → List ℕ → List ℕ
text_of from end chars = take (end - from) (drop from chars)

-- the range lies in the characters, and its text fits into the reply from `at` on
abbrev pub can_copy : List ℕ → List ℕ → ℕ → ℕ → ℕ → Bool
can_copy chars reply from end at = lies from end chars && leb (at + (end - from)) (length reply)

-- The reply with that text from `at` on, and the place after it. Nothing happens where it does not fit.
pub record Copied (chars reply : List ℕ) (from end at : ℕ) (reply' : List ℕ) (at' : ℕ) : Type 0 where
  pub bytes : reply' ≡ (if can_copy chars reply from end at then paste reply at (drop from chars) (end - from) else reply)
  pub next : at' ≡ (if can_copy chars reply from end at then at + (end - from) else at)

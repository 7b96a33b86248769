-- Marks, 0 or 1 and one for each cell, stay so.
use Rattle.std.proofs.Common.{◌≡◌, refl, ◌∙◌, true, List, [], ◌∷◌, ℕ, zero, suc, leb, length, get_or, replicate}
use lib.ListN.{length-replicate}
use Rattle.words.specs.Words.{tabulate}
use Rattle.words.proofs.Laws.{either, and_left, and_right, both}
use Rattle.screen.specs.Words.{in_range}
use Rattle.edit.specs.Edits.{filled_cell, filled}
use Rattle.edit.proofs.EditLaws.{filled_length}
use Rattle.rules.specs.Session.{all_marks}
use Rattle.rules.specs.Effect.{Marking, kept, cleared, marked, marks_after}
-- the sentences of document 01 are checked first, so that a wrong rule is refused there
use Rattle.rules.proofs.Causes.{nothing_else}

-- what refusals 2 and 11 ask of marks, on a screen of so many cells
pub record Marks (cells : ℕ) (marks : List ℕ) : Type 0 where
  pub long : length marks ≡ cells
  pub small : all_marks marks ≡ true

-- a mark by its cell, and marks by their cells
mark_at : (marks : List ℕ) → all_marks marks ≡ true → (i : ℕ) → leb (get_or marks i 0) 1 ≡ true
unfolding all_marks
mark_at [] e i = refl
mark_at (m ∷ ms) e zero = and_left (leb m 1) _ e
mark_at (m ∷ ms) e (suc i) = mark_at ms (and_right (leb m 1) _ e) i

marks_by : (f : ℕ → ℕ) → ((i : ℕ) → leb (f i) 1 ≡ true) → (i n : ℕ) → all_marks (tabulate f i n) ≡ true
unfolding all_marks tabulate
marks_by f h i zero = refl
marks_by f h i (suc n) = both (leb (f i) 1) _ (h i) (marks_by f h (suc i) n)

pub no_marks : (n : ℕ) → all_marks (replicate n 0) ≡ true
unfolding all_marks
no_marks zero = refl
no_marks (suc n) = no_marks n

pub still_marks : {cells : ℕ} {marks : List ℕ} → Marks cells marks → (m : Marking) → Marks cells (marks_after marks m)
unfolding marks_after filled
still_marks k kept = k
still_marks {marks = marks} k cleared = record { long = length-replicate (length marks) 0 ∙ k.long; small = no_marks (length marks) }
still_marks {marks = marks} k (marked from end) = record {
  long = filled_length from end 1 marks ∙ k.long;
  small = marks_by (filled_cell from end 1 marks)
      (λ i. either (λ m. leb m 1 ≡ true) (in_range from end i) (λ e. refl) (λ e. mark_at marks k.small i)) 0 (length marks);
}

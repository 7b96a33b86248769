-- Document 02, request (iii): worked cases of the line commands, and of the skips on the wrapped screen.
use Rattle.std.proofs.Common.{◌≡◌, refl, Bool, true, false, List, [], ◌∷◌, ◌++◌, ℕ, ◌-◌, length, replicate}
use Prim.Native.String.{String}
use Rattle.screen.specs.declared.cell.Place.{Place}
use Rattle.screen.specs.Cells.{place}
use Rattle.rules.specs.declared.Edition.TheVariants.{September}
use Rattle.rules.specs.Session.{State, fresh_frame, placed}
use Rattle.rules.specs.Cursor.{skipped_to_char}
use Rattle.rules.specs.Cases.Computing.{computing}
use Rattle.rules.specs.Cases.Vocabulary.{Case, Trial, Passes, characters, case, starting, at, showing, unchanged, det, host_trial, observed, expected, seeing}
use Rattle.rules.proofs.Passing.{each_equal}
use Rattle.rules.proofs.Worked.{start_f}
-- what is agreed is checked first
use Rattle.rules.proofs.Agreed.{agreed_holds}

-- ---- starts: "ABC" over "DEF" over "GHI" with the cursor at (1,y), nothing protected, or one cell, protection in effect or suppressed.
-- The least reply room is 81. Form F has 144.

abbrev lines : Bool → List ℕ → ℕ → State
lines suppressed attrs y = starting 3 3 suppressed (characters "ABCDEFGHI") attrs 1 y

abbrev free : String → ℕ → List Trial → Case
free title y trials = case title (lines false (replicate 9 0) y) trials

abbrev shut_at : String → ℕ → Bool → ℕ → List Trial → Case
shut_at title cell suppressed y trials = case title (lines suppressed (replicate cell 0 ++ (8 ∷ replicate (8 - cell) 0)) y) trials

-- four wide and two high, "abcd" over "efgh", the cursor at (1,1)
abbrev wide : String → List Trial → Case
wide title trials = case title (starting 4 2 false (characters "abcdefgh") (replicate 8 0) 1 1) trials

abbrev form : String → List Trial → Case
form title trials = case title (start_f 3 0) trials

-- ---- trials: a command, its parameters as they are sent, and what it leaves; one that draws an ERROR

abbrev does : List ℕ → (State → State) → List ℕ → Trial
does payload leaves answer = host_trial 144 (det payload) (length (det payload)) leaves answer

-- a line command, and the text that it leaves
abbrev shows : ℕ → String → Trial
shows code text = does (code ∷ []) (showing (characters text)) []

-- a skip, and where it goes
abbrev skips : List ℕ → ℕ → ℕ → Trial
skips payload x y = does payload (at x y) []

abbrev errs : ℕ → ℕ → List ℕ → Trial
errs number code parameters = does (code ∷ parameters) unchanged (det (41 ∷ code ∷ number ∷ []))

unfoldable pub lines_cases : List Case
lines_cases =
    free "13 inserts a line, 14 deletes it" 1 (shows 13 "ABC   DEF" ∷ shows 14 "ABCDEF   " ∷ [])
    ∷ free "14 moves all lines below" 0 (shows 14 "DEFGHI   " ∷ shows 14 "GHI      " ∷ [])
    ∷ free "13 loses the last line" 0 (shows 13 "   ABCDEF" ∷ shows 13 "      ABC" ∷ [])
    ∷ free "13 on the last line blanks it" 2 (shows 13 "ABCDEF   " ∷ [])
    ∷ free "14 on the last line blanks it" 2 (shows 14 "ABCDEF   " ∷ [])
    ∷ shut_at "a guarded last cell stops them" 8 false 1 (does (13 ∷ []) unchanged [] ∷ does (14 ∷ []) unchanged [] ∷ [])
    ∷ shut_at "a guarded cell before the cursor in its line stops them" 3 false 1 (does (13 ∷ []) unchanged [] ∷ does (14 ∷ []) unchanged [] ∷ [])
    ∷ shut_at "a guarded cell in a line above does not" 2 false 1 (shows 14 "ABCGHI   " ∷ shows 13 "ABC   GHI" ∷ [])
    ∷ shut_at "while suppressed a protected character moves, its attribute stays" 8 true 1 (shows 14 "ABCGHI   " ∷ [])
    ∷ wide "a line is as long as the screen is wide" (shows 14 "abcd    " ∷ shows 13 "abcd    " ∷ [])
    ∷ form "6 goes round the lines" (skips (6 ∷ 3 ∷ []) 3 1 ∷ skips (6 ∷ 0 ∷ []) 3 0 ∷ skips (6 ∷ 2 ∷ []) 3 0 ∷ skips (6 ∷ 255 ∷ 255 ∷ []) 3 1 ∷ [])
    ∷ form "7 in the line" (skips (7 ∷ 7 ∷ []) 7 0 ∷ skips (7 ∷ 2 ∷ []) 2 0 ∷ [])
    ∷ form "7 goes round the line, and down by DIV N" (skips (7 ∷ 9 ∷ []) 1 0 ∷ skips (7 ∷ 10 ∷ []) 2 1 ∷ skips (7 ∷ 255 ∷ 255 ∷ []) 7 0 ∷ [])
    ∷ form "6, 7, 13 and 14 have their parameters"
    (errs 10 6 [] ∷ errs 9 6 (0 ∷ 0 ∷ []) ∷ errs 10 7 [] ∷ errs 9 7 (0 ∷ 0 ∷ []) ∷ errs 9 13 (0 ∷ []) ∷ errs 9 14 (0 ∷ []) ∷ [])
    ∷ []

pub lines_pass : Passes lines_cases
unfolding computing seeing lines_cases
lines_pass = (tt, (tt, (tt, (tt, (tt, (tt, (tt, (tt, (tt, (tt, (tt, (tt, (tt, (tt, tt))))))))))))))

pub lines_hold : observed lines_cases ≡ expected lines_cases
lines_hold = each_equal lines_cases lines_pass

-- ---- 7 on screens of other sizes: m by n, the cursor at (x,y), the parameter

abbrev skipped : ℕ → ℕ → ℕ → ℕ → ℕ → Place
skipped m n x y p = skipped_to_char (placed (fresh_frame m n September) (place x y)) p

pub skips_by_lines :
    skipped 80 24 5 0 100 ∷ skipped 80 24 5 23 80 ∷ skipped 132 64 0 0 255 ∷ skipped 80 24 5 7 79 ∷ []
    ≡ place 20 4 ∷ place 0 2 ∷ place 123 3 ∷ place 79 7 ∷ []
unfolding computing
skips_by_lines = refl

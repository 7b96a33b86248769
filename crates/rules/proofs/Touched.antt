-- Document 02, request (v): worked cases of marks, of TRANSMIT MODIFIED, and of refusals 2 and 11.
use Rattle.std.proofs.Common.{◌≡◌, true, false, List, [], ◌∷◌, ◌++◌, ℕ, ◌+◌, ◌-◌, replicate}
use Prim.Native.String.{String}
use Rattle.rules.specs.Session.{State, screen}
use Rattle.rules.specs.Cases.Computing.{computing}
use Rattle.rules.specs.Cases.Vocabulary.{
  Case,
  Trial,
  Passes,
  characters,
  case,
  opening,
  starting,
  at,
  modes,
  det_off,
  attributed,
  marked,
  unmarked,
  unchanged,
  det,
  see,
  key_trial,
  refused_trial,
  heard,
  struck,
  observed,
  expected,
  seeing,
}
use Rattle.rules.proofs.Passing.{each_equal}
use Rattle.rules.proofs.Worked.{start_f, bytes}
-- the line commands are checked first
use Rattle.rules.proofs.Lines.{lines_hold}

-- ---- form F with no cell marked, or all; 3 by 3 "ABC" "DEF" "GHI" with nothing protected and no cell marked

abbrev fresh : String → ℕ → ℕ → List Trial → Case
fresh title x y trials = case title (unmarked (start_f x y)) trials

abbrev touched : String → ℕ → ℕ → List Trial → Case
touched title x y trials = case title (start_f x y) trials

abbrev lines : String → List Trial → Case
lines title trials = case title (unmarked (starting 3 3 false (characters "ABCDEFGHI") (replicate 9 0) 1 1)) trials

-- ---- trials

-- marks of form F: n cells from this one on
abbrev marks_at : ℕ → ℕ → State → State
marks_at cell n s = marked (replicate cell 0 ++ (replicate n 1 ++ replicate (16 - (cell + n)) 0)) s

-- a command, what it leaves and its answer; a key
abbrev does : List ℕ → (State → State) → List ℕ → Trial
does payload leaves answer = bytes (det payload) leaves answer

abbrev types : ℕ → (State → State) → Trial
types k leaves = key_trial 144 k leaves []

-- 27: the cursor goes to the first field, no cell is marked
abbrev sends : List ℕ → Trial
sends answer = does (27 ∷ []) (λ s. unmarked (at 3 0 s)) answer

-- a field as 27 sends it
abbrev field : ℕ → ℕ → String → List ℕ
field x y text = det (28 ∷ x ∷ y ∷ []) ++ characters text

-- refused, host bytes and a key
abbrev both : String → ℕ → ℕ → State → Case
both title number room s = case title s (refused_trial number room (heard (characters "x")) ∷ refused_trial number room (struck 9) ∷ [])

unfoldable pub touched_cases : List Case
touched_cases =
    fresh "a typed character marks its cell, changed or not" 5 1
    (types 109 (λ s. marks_at 13 1 (at 6 1 s)) ∷ sends (field 5 1 "mg ") ∷ sends [] ∷ [])
    ∷ fresh "16 marks its edit span" 3 0 (does (16 ∷ []) (λ s. marks_at 3 3 (see 3 0 "WT 0  #4UNIT mg " s)) [] ∷ [])
    ∷ fresh "15 marks its edit span" 4 0 (does (15 ∷ []) (λ s. marks_at 4 2 (see 4 0 "WT 7 0#4UNIT mg " s)) [] ∷ [])
    ∷ fresh "key 127 marks as 16, and 27 sends two fields" 3 0
    (types 127 (λ s. marks_at 3 3 (see 3 0 "WT 0  #4UNIT mg " s)) ∷ does (5 ∷ 6 ∷ 1 ∷ []) (at 6 1) []
    ∷ types 103 (λ s. marked (replicate 3 0 ++ (replicate 3 1 ++ (replicate 8 0 ++ (1 ∷ 0 ∷ [])))) (at 7 1 s))
    ∷ sends (field 3 0 "0  " ++ field 5 1 "mg ") ∷ [])
    ∷ lines "13 marks all from its line on" (does (13 ∷ []) (λ s. marked (replicate 3 0 ++ replicate 6 1) (see 1 1 "ABC   DEF" s)) [] ∷ [])
    ∷ fresh "a shift that a guard stops marks nothing" 6 0 (does (16 ∷ []) unchanged [] ∷ does (13 ∷ []) unchanged [] ∷ [])
    ∷ fresh "host text and REPEAT mark nothing" 3 0
    (bytes (characters "8") (see 4 0 "WT 80 #4UNIT mg ") [] ∷ does (37 ∷ 1 ∷ 53 ∷ []) (see 5 0 "WT 85 #4UNIT mg ") [] ∷ [])
    ∷ touched "27 clears every mark, of protected cells too" 0 0 (sends (field 3 0 "70 " ++ field 5 1 "mg ") ∷ sends [] ∷ [])
    ∷ case "27 while suppressed sends no protected field" (modes true true (start_f 0 0)) (sends (field 3 0 "70 " ++ field 5 1 "mg ") ∷ [])
    ∷ case "27 goes to the first field, marked or not" (marks_at 14 1 (start_f 7 1)) (sends (field 5 1 "mg ") ∷ [])
    ∷ case "marks of protected cells send nothing" (marks_at 6 7 (start_f 7 1)) (sends [] ∷ [])
    ∷ case "27 without an unprotected field" (attributed (replicate 16 8) (start_f 7 1)) (does (27 ∷ []) (λ s. unmarked (at 0 0 s)) [] ∷ [])
    ∷ case "27 sends the fields that there are now" (attributed (replicate 3 8 ++ (0 ∷ 1 ∷ 0 ∷ replicate 10 8)) (marks_at 4 1 (start_f 0 0)))
    (sends (field 4 0 "0") ∷ [])
    ∷ touched "27 that draws an ERROR changes nothing" 3 0 (does (27 ∷ 0 ∷ []) unchanged (det (41 ∷ 27 ∷ 9 ∷ [])) ∷ [])
    ∷ both "refusal 2, the mark buffer" 2 144 (marked (replicate 15 0) (start_f 3 0))
    ∷ both "refusal 11, a mark above 1" 11 144 (marked (2 ∷ replicate 15 0) (start_f 3 0))
    ∷ both "refusal 4 goes before 11" 4 144 (marked (2 ∷ replicate 15 0) (start_f 8 0))
    ∷ both "refusal 11 goes before 5" 11 143 (marked (2 ∷ replicate 15 0) (start_f 3 0))
    ∷ both "reply room 143 refused 5" 5 143 (start_f 3 0)
    ∷ opening "open: mark buffer not C long, refused 2" 8 2 732 (screen (replicate 16 32) (replicate 16 0) (replicate 15 7)) 2
    (marked (replicate 15 7) (det_off (starting 0 0 false (replicate 16 32) (replicate 16 0) 0 0)))
    ∷ []

pub touched_pass : Passes touched_cases
unfolding computing seeing touched_cases
touched_pass =
    (tt, (tt, (tt, (tt, (tt, (tt, (tt, (tt, (tt, (tt, (tt, (tt, (tt, (tt, (tt, (tt, (tt, (tt, (tt, (tt, tt))))))))))))))))))))

pub touched_holds : observed touched_cases ≡ expected touched_cases
touched_holds = each_equal touched_cases touched_pass

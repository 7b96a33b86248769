-- Document 02, request (vi): worked cases in June's edition, and of refusal 12.
use Rattle.std.proofs.Common.{◌≡◌, true, false, List, [], ◌∷◌, ◌++◌, ℕ, replicate}
use Prim.Native.String.{String}
use Rattle.rules.specs.Session.{State, no_maps, screen}
use Rattle.rules.specs.Cases.Computing.{computing}
use Rattle.rules.specs.Cases.Vocabulary.{
  Case,
  Trial,
  Passes,
  characters,
  case,
  opening,
  maps,
  starting,
  in_june,
  at,
  modes,
  asking,
  det_off,
  attributed,
  marked,
  unmarked,
  unchanged,
  det,
  see,
  key_trial,
  observed,
  expected,
  seeing,
}
use Rattle.rules.proofs.Passing.{each_equal}
use Rattle.rules.proofs.Worked.{start_f, bytes}
-- September's cases are checked first
use Rattle.rules.proofs.Touched.{touched_holds}

-- ---- form F in June, all agreed, every cell marked, the cursor at (3,0)

abbrev form_f : String → List Trial → Case
form_f title trials = case title (in_june (start_f 3 0)) trials

-- a command, what it leaves and its answer; one that draws an ERROR, by its number, and changes nothing
abbrev does : List ℕ → (State → State) → List ℕ → Trial
does payload leaves answer = bytes (det payload) leaves answer

abbrev errs : ℕ → ℕ → List ℕ → Trial
errs number code parameters = does (code ∷ parameters) unchanged (det (40 ∷ code ∷ number ∷ []))

-- what 21 and the send key say
abbrev sent : List ℕ
sent = det (27 ∷ 3 ∷ 0 ∷ []) ++ (characters "70 " ++ (det (38 ∷ []) ++ characters "mg "))

-- an open of 4 by 2 with these many cells lent: what it leaves, or its refusal, which leaves September's edition
abbrev blank_june : State
blank_june = in_june (unmarked (det_off (starting 4 2 false (replicate 8 32) (replicate 8 0) 0 0)))

abbrev opens_june : String → Case
opens_june title = opening title 4 2 731 (screen (replicate 8 200) (replicate 8 9) (replicate 8 1)) 0 blank_june

abbrev declines : String → ℕ → ℕ → ℕ → ℕ → Case
declines title number m named cells =
    opening title m 2 named (screen (replicate cells 200) (replicate cells 9) (replicate cells 1)) number
    (det_off (starting 0 0 false (replicate cells 200) (replicate cells 9) 0 0))

unfoldable pub june_cases : List Case
june_cases =
    form_f "June: 21 sends 27 and 38" (does (21 ∷ []) unchanged sent ∷ [])
    ∷ form_f "June: the send key too" (key_trial 144 13 unchanged sent ∷ [])
    ∷ form_f "June: no command byte draws ERROR 10" (does [] unchanged (det (40 ∷ 0 ∷ 10 ∷ [])) ∷ [])
    ∷ form_f "June: 5 off the screen draws ERROR 3" (does (5 ∷ 9 ∷ 1 ∷ []) (at 7 1) (det (40 ∷ 5 ∷ 3 ∷ [])) ∷ [])
    ∷ form_f "June: 27 is not obeyed" (errs 2 27 [] ∷ [])
    ∷ form_f "June: 28 erases the screen, its protection and its marks"
    (does (28 ∷ []) (λ s. unmarked (attributed (replicate 16 0) (see 0 0 "                " s))) [] ∷ [])
    ∷ form_f "June: 29 erases the line" (does (29 ∷ []) (see 3 0 "WT    #4UNIT mg ") [] ∷ [])
    ∷ form_f "June: 30 erases the field" (does (30 ∷ []) (see 3 0 "WT    #4UNIT mg ") [] ∷ [])
    ∷ case "June: 31, 32 and 33 erase the rests of screen, line and field" (in_june (start_f 4 0))
    (does (33 ∷ []) (see 4 0 "WT 7  #4UNIT mg ") [] ∷ does (32 ∷ []) unchanged [] ∷ does (31 ∷ []) (see 4 0 "WT 7  #4UNIT    ") [] ∷ [])
    ∷ form_f "June: 34 erases the unprotected cells, and all marks" (does (34 ∷ []) (λ s. unmarked (see 3 0 "WT    #4UNIT    " s)) [] ∷ [])
    ∷ form_f "June: 35 formats, with four parameters"
    (does (35 ∷ 8 ∷ 0 ∷ 0 ∷ 3 ∷ []) (attributed (replicate 13 8 ++ replicate 3 0)) [] ∷ errs 10 35 (8 ∷ 0 ∷ 3 ∷ []) ∷ [])
    ∷ form_f "June: 36 repeats" (does (36 ∷ 3 ∷ 120 ∷ []) (see 6 0 "WT xxx#4UNIT mg ") [] ∷ [])
    ∷ form_f "June: 37 suppresses, and is answered by 37"
    (does (37 ∷ 253 ∷ []) (modes true true) (det (37 ∷ 251 ∷ [])) ∷ does (37 ∷ 254 ∷ []) (modes true false) (det (37 ∷ 252 ∷ []))
    ∷ does (37 ∷ 251 ∷ []) unchanged (det (37 ∷ 254 ∷ [])) ∷ [])
    ∷ form_f "June: 38 and 39 are sent only" (errs 2 38 (253 ∷ []) ∷ errs 2 39 (1 ∷ []) ∷ [])
    ∷ form_f "June: 40 is ERROR, 41 is not" (does (40 ∷ 0 ∷ 0 ∷ []) unchanged [] ∷ errs 2 41 (0 ∷ 0 ∷ []) ∷ [])
    ∷ form_f "June: the format map has no bit for marks" (does (4 ∷ 0 ∷ 0 ∷ []) (asking (maps 255 255 255 0 0)) (det (4 ∷ 144 ∷ 121 ∷ [])) ∷ [])
    ∷ form_f "June: 17 is answered by 18" (does (17 ∷ []) unchanged (det (18 ∷ 3 ∷ 0 ∷ [])) ∷ [])
    ∷ form_f "June: a function key sends 39" (key_trial 144 128 unchanged (det (39 ∷ 1 ∷ [])) ∷ [])
    ∷ case "June: an ERROR names the code as it came" (asking no_maps (in_june (start_f 3 0)))
    (errs 1 36 (3 ∷ 120 ∷ []) ∷ errs 1 37 (253 ∷ []) ∷ errs 1 34 [] ∷ [])
    ∷ form_f "June: a character that is typed is marked" (does (34 ∷ []) (λ s. unmarked (see 3 0 "WT    #4UNIT    " s)) []
    ∷ key_trial 144 56 (λ s. marked (replicate 3 0 ++ (1 ∷ replicate 12 0)) (see 4 0 "WT 8  #4UNIT    " s)) [] ∷ [])
    ∷ opens_june "open in June's edition"
    ∷ declines "open: edition 733 refused 12" 12 4 733 8
    ∷ declines "open: edition 730 refused 12" 12 4 730 8
    ∷ declines "open: refusal 1 goes before 12" 1 0 733 0
    ∷ declines "open: refusal 12 goes before 2" 12 4 733 7
    ∷ declines "open in June's edition, refused 2, leaves September's" 2 4 731 7
    ∷ []

pub june_pass : Passes june_cases
unfolding computing seeing june_cases
june_pass = (
  tt,
  (
    tt,
    (
      tt,
      (
        tt,
        (
          tt,
          (
            tt,
            (
              tt,
              (
                tt,
                (
                  tt,
                  (
                    tt,
                    (
                      tt,
                      (
                        tt,
                        (
                          tt,
                          (tt, (tt, (tt, (tt, (tt, (tt, (tt, (tt, (tt, (tt, (tt, (tt, (tt, tt))))))))))))),
                        ),
                      ),
                    ),
                  ),
                ),
              ),
            ),
          ),
        ),
      ),
    ),
  ),
)

pub june_holds : observed june_cases ≡ expected june_cases
june_holds = each_equal june_cases june_pass

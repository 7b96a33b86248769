-- Worked cases beside P1 to P10, by the headings of document 01: what form F cannot show. Each list has a theorem that names the
-- case that fails, and `shut_holds` is over all of them.
use Rattle.std.proofs.Common.{◌≡◌, refl, Bool, true, false, List, [], ◌∷◌, ◌++◌, map, ℕ, ◌*◌, length, get_or, replicate}
use Prim.Native.String.{String}
use Rattle.telnet.specs.declared.Phase.TheVariants.{Rest, Iac, Negotiating, Opening, OpeningIac, Inside, InsideIac}
use Rattle.telnet.specs.declared.Verb.TheVariants.{Do}
use Rattle.rules.specs.Session.{State, screen}
use Rattle.rules.specs.Refusal.{told_number}
use Rattle.rules.specs.Operation.{blank, opened}
use Rattle.rules.specs.Cases.Computing.{computing}
use Rattle.rules.specs.Cases.Vocabulary.{Case, Trial, Passes, characters, case, opening, starting, at, modes, det_off, maps, asking, reading, after_cr, showing, attributed, unmarked, unchanged, det, verb, see, host_trial, key_trial, refused_trial, heard, struck, observed, expected, seeing}
use Rattle.rules.proofs.Passing.{each_equal, all_pass}
-- the worked forms are checked first
use Rattle.rules.proofs.Worked.{worked}

-- ---- starts: screens of 4 by 2 with DET on, whose least reply room is 72

-- "ABcd" over "eFGH": a protected label, an unprotected field "cde" that crosses the line end, a protected rest
abbrev label : Bool → ℕ → ℕ → State
label suppressed x y = starting 4 2 suppressed (characters "ABcdeFGH") (replicate 2 8 ++ (replicate 3 0 ++ replicate 3 8)) x y

-- it with protection in effect, and suppressed
abbrev form : String → ℕ → ℕ → List Trial → Case
form title x y trials = case title (label false x y) trials

abbrev lifted : String → ℕ → ℕ → List Trial → Case
lifted title x y trials = case title (label true x y) trials

-- "abcd" over "eF1G": "ab" of no class and "cde" alphabetic side by side, one numeric cell "1" between protected ones
abbrev sides : String → ℕ → ℕ → List Trial → Case
sides title x y trials =
    case title (starting 4 2 false (characters "abcdeF1G") (replicate 2 0 ++ (replicate 3 16 ++ (8 ∷ 24 ∷ 8 ∷ []))) x y) trials

-- nothing protected; everything protected, by two unequal attribute bytes
abbrev free : String → ℕ → ℕ → List Trial → Case
free title x y trials = case title (starting 4 2 false (characters "abcdefgh") (replicate 8 0) x y) trials

abbrev closed : String → ℕ → ℕ → List Trial → Case
closed title x y trials = case title (starting 4 2 false (characters "ABCDEFGH") (replicate 4 8 ++ replicate 4 9) x y) trials

-- one cell with this attribute byte, whose least reply room is 9
abbrev cell : ℕ → Bool → State
cell attr suppressed = starting 1 1 suppressed (characters "?") (attr ∷ []) 0 0

-- one line of this width; these characters, four attribute bytes, the cursor at x
abbrev line : ℕ → List ℕ → ℕ → State
line m chars x = starting m 1 false chars (replicate 4 0) x 0

-- the label at (2,0), with DET off; with these bytes held
abbrev off : State
off = modes false false (label false 2 0)

abbrev holds : List ℕ → State
holds held = reading Rest held (label false 2 0)

-- ---- trials: what is given; then the cursor, the characters, the reply

abbrev char : String → ℕ
char text = get_or (characters text) 0 0

-- a transmission, an ERROR
abbrev from : ℕ → ℕ → String → List ℕ
from x y text = det (28 ∷ x ∷ y ∷ []) ++ characters text

abbrev error : ℕ → ℕ → List ℕ
error code number = det (41 ∷ code ∷ number ∷ [])

-- host bytes, all taken, and what they leave; those that change nothing
abbrev reads : List ℕ → (State → State) → List ℕ → Trial
reads input leaves reply = host_trial 72 input (length input) leaves reply

abbrev hears : List ℕ → List ℕ → Trial
hears input reply = reads input unchanged reply

-- a command with its parameters that moves the cursor alone; one without parameters
abbrev asks : List ℕ → ℕ → ℕ → List ℕ → Trial
asks payload x y reply = reads (det payload) (at x y) reply

abbrev sends : ℕ → ℕ → ℕ → List ℕ → Trial
sends code x y reply = asks (code ∷ []) x y reply

abbrev goes : ℕ → ℕ → ℕ → Trial
goes code x y = sends code x y []

-- a command without parameters that changes the characters
abbrev does : ℕ → ℕ → ℕ → String → Trial
does code x y text = reads (det (code ∷ [])) (see x y text) []

-- 36 with its parameters, and the attribute bytes that it leaves; 38, and protection suppressed or not
abbrev formats : List ℕ → List ℕ → Trial
formats parameters attrs = reads (det (36 ∷ parameters)) (attributed attrs) []

abbrev suppresses : ℕ → Bool → List ℕ → Trial
suppresses value suppressed reply = reads (det (38 ∷ value ∷ [])) (modes true suppressed) reply

-- a command that draws an ERROR and changes nothing: the number, the code, its parameters
abbrev errs : ℕ → ℕ → List ℕ → Trial
errs number code parameters = hears (det (code ∷ parameters)) (error code number)

-- a key that is taken and moves the cursor, one that is typed, one that is refused
abbrev press : ℕ → ℕ → ℕ → List ℕ → Trial
press k x y reply = key_trial 72 k (at x y) reply

abbrev types : String → ℕ → ℕ → String → Trial
types k x y text = key_trial 72 (char k) (see x y text) []

abbrev deletes : ℕ → ℕ → String → Trial
deletes x y text = key_trial 72 127 (see x y text) []

abbrev refuses : ℕ → ℕ → ℕ → Trial
refuses number room k = refused_trial number room (struck k)

-- each key in turn: written in the one cell, the cursor having nowhere to go; or refused
abbrev written : String → List Trial
written keys = map (λ k. key_trial 9 k (showing (k ∷ [])) []) (characters keys)

abbrev refused : String → List Trial
refused keys = map (λ k. refuses 7 9 k) (characters keys)

-- with this room host bytes, and a key without meaning, are both refused with this number
abbrev both : String → ℕ → ℕ → State → Case
both title number room s = case title s (refused_trial number room (heard (characters "x")) ∷ refuses number room 1 ∷ [])

-- keys that are refused, one after the other: the number, the room, the key
abbrev denied : String → State → List (ℕ × ℕ × ℕ) → Case
denied title s rows = case title s (map (λ r. refuses r.0 r.1 r.2) rows)

-- ---- classes

unfoldable pub classes : List Case
classes =
    case "class 2 takes letters and space" (cell 16 false) (written "AZaz " ++ refused "@[`{0!")
    ∷ case "class 3 takes digits, space and three signs" (cell 24 false) (written "09+-. " ++ refused "/:,*A!")
    ∷ case "bits 4 and 3 alone are the class" (cell 255 false) (written "5" ++ refused "A")
    ∷ case "no class takes every character" (cell 0 false) (written "~!A0 ")
    ∷ case "class 3 is not tested while suppressed" (cell 24 true) (written "A@")
    ∷ case "class 2 is not tested while suppressed" (cell 16 true) (written "0")
    ∷ case "a protected cell is typed on while suppressed" (cell 8 true) (written "A")
    ∷ case "class is not tested for the host" (cell 24 false) (host_trial 9 (characters "A") 1 (showing (characters "A")) [] ∷ refused "B")
    ∷ []

pub classes_pass : Passes classes
unfolding computing seeing classes
classes_pass = (tt, (tt, (tt, (tt, (tt, (tt, (tt, (tt, tt))))))))

-- ---- cells and fields

unfoldable pub fields : List Case
fields =
    form "23 and 26 send a field over the line end" 3 0 (sends 23 3 0 (from 2 0 "cde") ∷ sends 26 3 0 (from 3 0 "de") ∷ [])
    ∷ form "23 and 26 from the field's second line" 0 1 (sends 23 0 1 (from 2 0 "cde") ∷ sends 26 0 1 (from 0 1 "e") ∷ [])
    ∷ form "typing goes on, key 8 back; none, it stays" 3 0
    (types "x" 0 1 "ABcxeFGH" ∷ types "y" 0 1 "ABcxyFGH" ∷ press 8 3 0 [] ∷ press 8 2 0 [] ∷ press 8 2 0 [] ∷ [])
    ∷ form "key 8 goes over guarded cells" 3 1 (press 8 0 1 [] ∷ [])
    ∷ form "host text on to a guarded cell is dropped" 3 0 (reads (characters "xyz") (see 1 1 "ABcxyFGH") [] ∷ [])
    ∷ form "the edit span ends with the line" 2 0
    (does 16 2 0 "ABd eFGH" ∷ does 15 2 0 "AB deFGH" ∷ deletes 2 0 "ABd eFGH" ∷ [])
    ∷ form "15 in an edit span of one cell" 0 1 (does 15 0 1 "ABcd FGH" ∷ [])
    ∷ form "16 in an edit span of one cell" 0 1 (does 16 0 1 "ABcd FGH" ∷ [])
    ∷ sides "21 sends fields side by side apart" 3 1
    (sends 21 0 0 (from 0 0 "ab" ++ (det (39 ∷ []) ++ (characters "cde" ++ (det (39 ∷ []) ++ characters "1")))) ∷ [])
    ∷ sides "23 and 26 send one of two fields side by side" 1 0 (sends 23 1 0 (from 0 0 "ab") ∷ sends 26 1 0 (from 1 0 "b") ∷ [])
    ∷ sides "23 and 31 at the second of them" 3 0 (sends 23 3 0 (from 2 0 "cde") ∷ does 31 3 0 "ab   F1G" ∷ [])
    ∷ sides "the edit span ends with its field" 0 0 (does 16 0 0 "b cdeF1G" ∷ [])
    ∷ sides "key 9 to the next field, else the first" 0 0 (press 9 2 0 [] ∷ press 9 2 1 [] ∷ press 9 0 0 [] ∷ [])
    ∷ sides "19 to the last start before the cursor" 3 1 (goes 19 2 1 ∷ goes 19 2 0 ∷ goes 19 0 0 ∷ goes 19 0 0 ∷ [])
    ∷ sides "typing goes on to a cell of another class" 1 0 (types "x" 2 0 "axcdeF1G" ∷ refuses 7 72 (char "1") ∷ [])
    ∷ sides "typing goes on over a guarded cell" 0 1 (types "x" 2 1 "abcdxF1G" ∷ [])
    ∷ []

pub fields_pass : Passes fields
unfolding computing seeing fields
fields_pass = (tt, (tt, (tt, (tt, (tt, (tt, (tt, (tt, (tt, (tt, (tt, (tt, (tt, (tt, (tt, (tt, tt))))))))))))))))

-- ---- guards and suppression

unfoldable pub guards : List Case
guards =
    form "21 and key 13 send the unprotected fields" 3 1 (sends 21 2 0 (from 2 0 "cde") ∷ press 13 2 0 (from 2 0 "cde") ∷ [])
    ∷ lifted "suppression does not change what 21 sends" 3 1 (sends 21 2 0 (from 2 0 "cde") ∷ press 13 2 0 (from 2 0 "cde") ∷ [])
    ∷ closed "21 without fields sends its preface" 3 1 (sends 21 0 0 (from 0 0 "") ∷ [])
    ∷ closed "keys 9, 8 and 13 without a field" 3 1 (press 9 3 1 [] ∷ press 8 3 1 [] ∷ press 13 0 0 (from 0 0 "") ∷ [])
    ∷ closed "12 without an unprotected cell" 3 1 (goes 12 0 0 ∷ [])
    ∷ closed "19 without a field" 3 1 (goes 19 0 0 ∷ [])
    ∷ closed "35 without a field" 3 1 (reads (det (35 ∷ [])) (λ s. unmarked (at 0 0 s)) [] ∷ [])
    ∷ form "23 and 26 on a guarded cell" 2 1 (sends 23 2 1 (from 2 1 "") ∷ sends 26 2 1 (from 2 1 "") ∷ [])
    ∷ lifted "23 and 26 on a protected cell, suppressed" 2 1 (sends 23 2 1 (from 1 1 "FGH") ∷ sends 26 2 1 (from 2 1 "GH") ∷ [])
    ∷ form "15 and 16 do nothing on a guarded cell" 1 0 (goes 15 1 0 ∷ goes 16 1 0 ∷ [])
    ∷ lifted "15 shifts to the line's end while suppressed" 1 0 (does 15 1 0 "A BceFGH" ∷ [])
    ∷ lifted "16 shifts to the line's end while suppressed" 1 0 (does 16 1 0 "Acd eFGH" ∷ [])
    ∷ lifted "15 in the second line while suppressed" 0 1 (does 15 0 1 "ABcd eFG" ∷ [])
    ∷ lifted "16 in the second line while suppressed" 0 1 (does 16 0 1 "ABcdFGH " ∷ [])
    ∷ lifted "key 127 is as 16 while suppressed" 1 1 (deletes 1 1 "ABcdeGH " ∷ [])
    ∷ lifted "keys while suppressed" 0 0
    (types "x" 1 0 "xBcdeFGH" ∷ press 8 0 0 [] ∷ press 8 0 0 [] ∷ press 9 2 0 [] ∷ [])
    ∷ lifted "typing stays at the screen's end" 3 1 (types "x" 3 1 "ABcdeFGx" ∷ [])
    -- suppressed twice and ended twice, 23 after each; the two questions; other values
    ∷ form "38 with 253, 254, 251, 252 and others" 0 0
    (suppresses 253 true (det (38 ∷ 251 ∷ [])) ∷ suppresses 253 true [] ∷ sends 23 0 0 (from 0 0 "AB")
    ∷ suppresses 254 false (det (38 ∷ 252 ∷ [])) ∷ suppresses 254 false [] ∷ sends 23 0 0 (from 0 0 "")
    ∷ suppresses 251 false (det (38 ∷ 254 ∷ [])) ∷ suppresses 252 false []
    ∷ errs 11 38 (250 ∷ []) ∷ hears (det (38 ∷ 255 ∷ 255 ∷ [])) (error 38 11) ∷ [])
    ∷ lifted "38 with 251 and 252 while suppressed" 0 0 (suppresses 251 true (det (38 ∷ 254 ∷ [])) ∷ suppresses 252 true [] ∷ [])
    ∷ []

pub guards_pass : Passes guards
unfolding computing seeing guards
guards_pass = (tt, (tt, (tt, (tt, (tt, (tt, (tt, (tt, (tt, (tt, (tt, (tt, (tt, (tt, (tt, (tt, (tt, (tt, (tt, tt)))))))))))))))))))

-- ---- moving and sending

unfoldable pub moves : List Case
moves =
    form "12 goes to the first unprotected cell" 3 1 (goes 12 2 0 ∷ [])
    ∷ lifted "12 goes to (0,0) while suppressed" 3 1 (goes 12 0 0 ∷ [])
    ∷ form "19 passes over protected fields" 3 1 (goes 19 2 0 ∷ [])
    ∷ lifted "19 goes to (0,0) while suppressed" 3 1 (goes 19 0 0 ∷ [])
    ∷ form "20 sends the screen, cursor (0,0)" 3 1 (sends 20 0 0 (from 0 0 "ABcdeFGH") ∷ [])
    ∷ form "22 sends the line, cursor to the next line" 1 0 (sends 22 0 1 (from 0 0 "ABcd") ∷ [])
    ∷ form "22 on the last line, cursor to its start" 2 1 (sends 22 0 1 (from 0 1 "eFGH") ∷ [])
    ∷ lifted "22 goes to the next line while suppressed" 1 0 (sends 22 0 1 (from 0 0 "ABcd") ∷ [])
    ∷ form "24 and 25 send the rest of screen and line" 1 0 (sends 24 1 0 (from 1 0 "BcdeFGH") ∷ sends 25 1 0 (from 1 0 "Bcd") ∷ [])
    ∷ form "5 is limited in x and in y" 2 0 (asks (5 ∷ 4 ∷ 0 ∷ []) 3 0 (error 5 3) ∷ asks (5 ∷ 1 ∷ 2 ∷ []) 1 1 (error 5 3) ∷ [])
    ∷ form "5 limited in both draws one ERROR 3" 2 0 (asks (5 ∷ 255 ∷ 255 ∷ 9 ∷ []) 3 1 (error 5 3) ∷ [])
    ∷ form "8 up, 9 down, 10 left, 11 right" 3 0 (goes 8 3 0 ∷ goes 11 3 0 ∷ goes 9 3 1 ∷ goes 9 3 1 ∷ goes 10 2 1 ∷ [])
    ∷ form "steps back, and 17 answers 18 x y" 0 1 (goes 10 0 1 ∷ goes 8 0 0 ∷ goes 11 1 0 ∷ sends 17 1 0 (det (18 ∷ 1 ∷ 0 ∷ [])) ∷ [])
    ∷ form "1 to 4 answer the terminal's own map" 2 0
    (reads (det (1 ∷ 7 ∷ [])) (asking (maps 7 255 255 255 255)) (det (1 ∷ 126 ∷ []))
    ∷ reads (det (2 ∷ 0 ∷ [])) (asking (maps 7 0 255 255 255)) (det (2 ∷ 31 ∷ []))
    ∷ reads (det (3 ∷ 9 ∷ [])) (asking (maps 7 0 9 255 255)) (det (3 ∷ 63 ∷ []))
    ∷ reads (det (4 ∷ 1 ∷ 2 ∷ [])) (asking (maps 7 0 9 1 2)) (det (4 ∷ 208 ∷ 121 ∷ [])) ∷ [])
    ∷ form "41 has no answer and no effect" 2 0 (hears (det (41 ∷ 5 ∷ 3 ∷ [])) [] ∷ [])
    ∷ lifted "41 has no effect while suppressed" 2 0 (hears (det (41 ∷ 5 ∷ 3 ∷ [])) [] ∷ [])
    ∷ form "keys 128 and 143 send FN 1 and 16" 2 0 (press 128 2 0 (det (40 ∷ 1 ∷ [])) ∷ press 143 2 0 (det (40 ∷ 16 ∷ [])) ∷ [])
    ∷ []

pub moves_pass : Passes moves
unfolding computing seeing moves
moves_pass = (tt, (tt, (tt, (tt, (tt, (tt, (tt, (tt, (tt, (tt, (tt, (tt, (tt, (tt, (tt, (tt, (tt, tt)))))))))))))))))

-- ---- erasing, formatting, repeating

-- 29: all spaces, attributes 0, cursor (0,0)
abbrev erases_all : Trial
erases_all = reads (det (29 ∷ [])) (λ s. unmarked (see 0 0 "        " (attributed (replicate 8 0) s))) []

unfoldable pub edits : List Case
edits =
    form "30 erases the line where it is not guarded" 1 0 (does 30 1 0 "AB  eFGH" ∷ [])
    ∷ lifted "30 erases the line while suppressed" 1 0 (does 30 1 0 "    eFGH" ∷ [])
    ∷ form "30 in the second line" 3 1 (does 30 3 1 "ABcd FGH" ∷ [])
    ∷ form "31 erases the field" 0 1 (does 31 0 1 "AB   FGH" ∷ [])
    ∷ lifted "31 erases a protected field while suppressed" 2 1 (does 31 2 1 "ABcde   " ∷ [])
    ∷ form "31 and 34 in a guarded field" 2 1 (goes 31 2 1 ∷ goes 34 2 1 ∷ [])
    ∷ form "32 erases the rest of the screen" 3 0 (does 32 3 0 "ABc  FGH" ∷ [])
    ∷ lifted "32 while suppressed" 3 0 (does 32 3 0 "ABc     " ∷ [])
    ∷ form "33 erases the rest of the line" 1 0 (does 33 1 0 "AB  eFGH" ∷ [])
    ∷ lifted "33 while suppressed" 1 0 (does 33 1 0 "A   eFGH" ∷ [])
    ∷ form "34 erases the rest of the field" 3 0 (does 34 3 0 "ABc  FGH" ∷ [])
    ∷ lifted "34 while suppressed" 2 1 (does 34 2 1 "ABcdeF  " ∷ [])
    ∷ form "35 erases all unprotected cells" 3 1 (reads (det (35 ∷ [])) (λ s. unmarked (see 2 0 "AB   FGH" s)) [] ∷ [])
    ∷ lifted "35 while suppressed" 3 1 (reads (det (35 ∷ [])) (λ s. unmarked (see 2 0 "AB   FGH" s)) [] ∷ [])
    ∷ form "29 leaves spaces, attributes 0, cursor (0,0)" 3 1 (erases_all ∷ sends 21 0 0 (from 0 0 "        ") ∷ [])
    ∷ lifted "29 leaves protection suppressed" 3 1 (erases_all ∷ [])
    ∷ free "37 writes as host data, at the last cell too" 2 1
    (reads (det (37 ∷ 3 ∷ 0x78 ∷ [])) (see 3 1 "abcdefxx") [] ∷ reads (det (37 ∷ 1 ∷ 0x79 ∷ [])) (see 3 1 "abcdefxy") [] ∷ [])
    ∷ free "37 writes 255 times" 1 0 (reads (det (37 ∷ 255 ∷ 255 ∷ 0x78 ∷ [])) (see 3 1 "axxxxxxx") [] ∷ [])
    ∷ form "37 no times; ERROR 11" 2 0
    (hears (det (37 ∷ 0 ∷ 0x78 ∷ [])) [] ∷ errs 11 37 (0 ∷ 31 ∷ []) ∷ errs 11 37 (1 ∷ 127 ∷ []) ∷ [])
    ∷ []

pub edits_pass : Passes edits
unfolding computing seeing edits
edits_pass = (tt, (tt, (tt, (tt, (tt, (tt, (tt, (tt, (tt, (tt, (tt, (tt, (tt, (tt, (tt, (tt, (tt, (tt, (tt, tt)))))))))))))))))))

-- ---- FORMAT DATA

-- a screen of 256 cells, whose least reply room is 2304
abbrev wide : State
wide = starting 128 2 false (replicate 256 0x2e) (replicate 256 0) 0 0

unfoldable pub formatting : List Case
formatting =
    form "36 sets attributes from the cursor" 2 0
    (formats (0 ∷ 0 ∷ 0 ∷ 6 ∷ []) (replicate 2 8 ++ replicate 6 0) ∷ sends 23 2 0 (from 2 0 "cdeFGH") ∷ [])
    ∷ form "36 of count 0 does nothing" 2 0 (hears (det (36 ∷ 8 ∷ 0 ∷ 0 ∷ 0 ∷ [])) [] ∷ sends 23 2 0 (from 2 0 "cde") ∷ [])
    ∷ form "36 writes its first map byte" 2 0
    (formats (31 ∷ 0 ∷ 0 ∷ 1 ∷ []) (8 ∷ 8 ∷ 31 ∷ 0 ∷ 0 ∷ replicate 3 8) ∷ sends 23 2 0 (from 2 0 "c") ∷ [])
    ∷ lifted "36 leaves protection suppressed" 2 0 (formats (16 ∷ 0 ∷ 0 ∷ 2 ∷ []) (8 ∷ 8 ∷ 16 ∷ 16 ∷ 0 ∷ replicate 3 8) ∷ [])
    -- where six cells remain
    ∷ form "36: ERROR 12, then ERROR 11" 2 0
    (errs 12 36 (32 ∷ 0 ∷ 0 ∷ 7 ∷ []) ∷ errs 12 36 (0 ∷ 1 ∷ 0 ∷ 7 ∷ []) ∷ errs 12 36 (128 ∷ 0 ∷ 0 ∷ 0 ∷ [])
    ∷ errs 11 36 (0 ∷ 0 ∷ 0 ∷ 7 ∷ []) ∷ errs 11 36 (0 ∷ 0 ∷ 1 ∷ 0 ∷ []) ∷ [])
    ∷ case "36: the count's high byte counts 256" wide
    (host_trial 2304 (det (36 ∷ 9 ∷ 0 ∷ 1 ∷ 0 ∷ [])) 10 (attributed (replicate 256 9)) [] ∷ [])
    ∷ case "36: one more than 256 where 256 remain" wide (host_trial 2304 (det (36 ∷ 9 ∷ 0 ∷ 1 ∷ 1 ∷ [])) 10 unchanged (error 36 11) ∷ [])
    ∷ []

pub formatting_pass : Passes formatting
unfolding computing seeing formatting
formatting_pass = (tt, (tt, (tt, (tt, (tt, (tt, (tt, tt)))))))

-- ---- ERROR

unfoldable pub errors : List Case
errors =
    form "too few parameters 10, too many 9" 2 0
    (errs 10 5 [] ∷ errs 10 5 (1 ∷ []) ∷ errs 9 5 (replicate 3 1) ∷ errs 9 5 (replicate 10 1) ∷ [])
    ∷ form "too many parameters where none are taken" 2 0 (errs 9 11 (1 ∷ []) ∷ errs 9 11 (replicate 8 1) ∷ [])
    ∷ form "parameter count goes before values" 2 0
    (errs 10 36 (replicate 3 32) ∷ errs 9 36 (replicate 5 32) ∷ errs 9 36 (replicate 12 32) ∷ [])
    ∷ form "all other codes draw ERROR 2" 2 0 (map (λ code. errs 2 code []) (0 ∷ 18 ∷ 28 ∷ 39 ∷ 40 ∷ 42 ∷ 254 ∷ []))
    ∷ form "an unknown code, whatever follows it" 2 0
    (errs 2 18 (replicate 8 1) ∷ hears (det (255 ∷ 255 ∷ [])) (det (41 ∷ 255 ∷ 255 ∷ 2 ∷ [])) ∷ [])
    ∷ lifted "ERROR leaves protection suppressed" 2 0 (errs 2 18 [] ∷ errs 9 11 (1 ∷ []) ∷ errs 11 37 (0 ∷ 31 ∷ []) ∷ [])
    ∷ []

pub errors_pass : Passes errors
unfolding computing seeing errors
errors_pass = (tt, (tt, (tt, (tt, (tt, (tt, tt))))))

-- ---- Telnet bytes

unfoldable pub telnet : List Case
telnet =
    form "IAC SB in a subnegotiation begins anew" 2 0
    (reads (0xff ∷ 0xfa ∷ 0x14 ∷ 17 ∷ det (11 ∷ [])) (at 3 0) [] ∷ [])
    ∷ form "DO in a subnegotiation throws it away" 2 0
    (hears (0xff ∷ 0xfa ∷ 0x14 ∷ 11 ∷ verb 253 3) (verb 252 3) ∷ hears (0xff ∷ 0xf0 ∷ []) []
    ∷ reads (characters "x") (see 3 0 "ABxdeFGH") [] ∷ [])
    ∷ form "so does a command that does nothing" 2 0 (hears (0xff ∷ 0xfa ∷ 0x14 ∷ 11 ∷ 0xff ∷ 0xf1 ∷ 0xff ∷ 0xf0 ∷ []) [] ∷ [])
    ∷ form "option 255 is single, in our answers too" 2 0
    (hears (verb 253 255) (verb 252 255) ∷ hears (verb 251 255) (verb 254 255) ∷ reads (characters "x") (see 3 0 "ABxdeFGH") [] ∷ [])
    ∷ form "other subnegotiations are ignored" 2 0
    (hears (0xff ∷ 0xfa ∷ 21 ∷ 11 ∷ 0xff ∷ 0xf0 ∷ []) [] ∷ hears (0xff ∷ 0xfa ∷ 0xff ∷ 0xff ∷ 11 ∷ 0xff ∷ 0xf0 ∷ []) []
    ∷ hears (0xff ∷ 0xfa ∷ 0xff ∷ 0xf0 ∷ []) [] ∷ [])
    ∷ form "a command cut in two with a key between" 2 0
    (reads (0xff ∷ 0xfa ∷ 0x14 ∷ 5 ∷ []) (reading (Inside 20) (5 ∷ [])) [] ∷ types "x" 3 0 "ABxdeFGH"
    ∷ reads (1 ∷ 1 ∷ 0xff ∷ 0xf0 ∷ []) (λ s. reading Rest [] (at 1 1 s)) [] ∷ [])
    ∷ form "a command cut after each IAC" 2 0
    (reads (0xff ∷ []) (reading Iac []) [] ∷ reads (0xfa ∷ 0x14 ∷ 11 ∷ 0xff ∷ []) (reading (InsideIac 20) (11 ∷ [])) []
    ∷ reads (0xf0 ∷ []) (λ s. reading Rest [] (at 3 0 s)) [] ∷ [])
    ∷ form "cut after IAC SB and after a verb" 2 0
    (reads (0xff ∷ 0xfa ∷ []) (reading Opening []) [] ∷ reads (0xff ∷ []) (reading OpeningIac []) []
    ∷ reads (0xf0 ∷ 0xff ∷ 253 ∷ []) (reading (Negotiating Do) []) [] ∷ reads (3 ∷ []) (reading Rest []) (verb 252 3) ∷ [])
    ∷ form "six bytes are held, the count stops there" 2 0
    (reads (0xff ∷ 0xfa ∷ 0x14 ∷ 1 ∷ 2 ∷ replicate 9 3) (reading (Inside 20) (1 ∷ 2 ∷ replicate 4 3)) [] ∷ [])
    ∷ form "another option's bytes are held" 2 0 (reads (0xff ∷ 0xfa ∷ 21 ∷ 7 ∷ 8 ∷ []) (reading (Inside 21) (7 ∷ 8 ∷ [])) [] ∷ [])
    ∷ case "bytes are held while DET is off" off
    (reads (0xff ∷ 0xfa ∷ 0x14 ∷ 7 ∷ 0xff ∷ 0xff ∷ []) (reading (Inside 20) (7 ∷ 255 ∷ [])) [] ∷ [])
    ∷ case "held bytes 0 again at the option byte" (holds (1 ∷ 2 ∷ 3 ∷ []))
    (reads (0xff ∷ 0xfa ∷ 0x14 ∷ []) (reading (Inside 20) []) [] ∷ [])
    ∷ case "held bytes 0 again after IAC SB IAC SE" (holds (1 ∷ 2 ∷ 3 ∷ []))
    (reads (0xff ∷ 0xfa ∷ 0xff ∷ 0xf0 ∷ []) (reading Rest []) [] ∷ [])
    ∷ case "held bytes 0 again after one thrown away" (holds (1 ∷ 2 ∷ 3 ∷ []))
    (reads (0xff ∷ 0xfa ∷ 0xff ∷ 0xf1 ∷ []) (reading Rest []) [] ∷ [])
    ∷ case "held bytes 0 again after another option's" off (hears (0xff ∷ 0xfa ∷ 21 ∷ 7 ∷ 0xff ∷ 0xf0 ∷ []) [] ∷ [])
    ∷ case "data and negotiation leave held bytes" (holds (1 ∷ 2 ∷ 3 ∷ []))
    (reads (characters "x") (see 3 0 "ABxdeFGH") [] ∷ hears (verb 253 3) (verb 252 3) ∷ hears (0xff ∷ 0xf1 ∷ []) [] ∷ [])
    -- two questions, each answered with 8 bytes: with room 79 there are 71 left after the first, one too few; with 80 there are 72
    ∷ form "not taken with 9C - 1 bytes free" 2 0 (host_trial 79 (det (17 ∷ []) ++ det (17 ∷ [])) 6 unchanged (det (18 ∷ 2 ∷ 0 ∷ [])) ∷ [])
    ∷ form "taken with 9C bytes free" 2 0
    (host_trial 80 (det (17 ∷ []) ++ det (17 ∷ [])) 12 unchanged (det (18 ∷ 2 ∷ 0 ∷ []) ++ det (18 ∷ 2 ∷ 0 ∷ [])) ∷ [])
    ∷ []

pub telnet_pass : Passes telnet
unfolding computing seeing telnet
telnet_pass = (tt, (tt, (tt, (tt, (tt, (tt, (tt, (tt, (tt, (tt, (tt, (tt, (tt, (tt, (tt, (tt, (tt, (tt, tt))))))))))))))))))

-- ---- negotiation and host data

unfoldable pub data_cases : List Case
data_cases =
    lifted "DONT 20 while on, DO 20 while off" 0 0
    (reads (verb 254 20) det_off (verb 252 20) ∷ hears (verb 254 20) [] ∷ hears (characters "x") [] ∷ hears (det (11 ∷ [])) []
    ∷ reads (verb 253 20) (modes true false) (verb 251 20) ∷ hears (verb 253 20) [] ∷ hears (det (23 ∷ [])) (det (41 ∷ 23 ∷ 1 ∷ []))
    ∷ reads (det (3 ∷ 8 ∷ [])) (asking (maps 0 0 8 0 0)) (det (3 ∷ 63 ∷ [])) ∷ sends 23 0 0 (from 0 0 "") ∷ [])
    ∷ form "WILL is answered DONT, WONT not" 2 0
    (hears (verb 251 20) (verb 254 20) ∷ hears (verb 252 20) [] ∷ hears (verb 254 3) [] ∷ [])
    ∷ case "DO 3 and WILL 20 while DET is off" off (hears (verb 253 3) (verb 252 3) ∷ hears (verb 251 20) (verb 254 20) ∷ [])
    -- a forged session: DET off and protection suppressed
    ∷ case "DO 20 while off leaves suppression" (modes false true (label true 2 0))
    (reads (verb 253 20) (modes true true) (verb 251 20) ∷ [])
    ∷ case "DONT 20 while off does nothing" (modes false true (label true 2 0)) (hears (verb 254 20) [] ∷ [])
    ∷ form "BS and LF stop at the edge" 2 0
    (reads (8 ∷ []) (at 1 0) [] ∷ reads (10 ∷ []) (at 1 1) [] ∷ reads (10 ∷ 8 ∷ 8 ∷ []) (at 0 1) [] ∷ [])
    ∷ form "CR sets x to 0" 3 1 (reads (13 ∷ []) (λ s. after_cr true (at 0 1 s)) [] ∷ [])
    ∷ form "other data and IAC commands do nothing" 2 0
    (hears (0 ∷ 7 ∷ 9 ∷ 31 ∷ 127 ∷ 128 ∷ 254 ∷ 0xff ∷ 0xff ∷ []) [] ∷ hears (0xff ∷ 0x41 ∷ 0xff ∷ 0xf1 ∷ []) [] ∷ [])
    ∷ free "at the last cell the cursor stays" 2 1 (reads (characters "xyz") (see 3 1 "abcdefxz") [] ∷ [])
    ∷ case "host text while DET is off" off (reads (characters "x") (see 3 0 "ABxdeFGH") [] ∷ [])
    ∷ []

pub data_pass : Passes data_cases
unfolding computing seeing data_cases
data_pass = (tt, (tt, (tt, (tt, (tt, (tt, (tt, (tt, (tt, (tt, tt))))))))))

-- ---- refusals

-- The order is 1, 2, 3, 4, 5, 9, 8, 6, 7. Faults 1 to 5 at once, the key's 9 too: no width, four cells where none belong, a character
-- 31, the cursor past the end, room 1. Then without the first of them, and so on down to 9 alone, with the least room. No two of the
-- last four come together: a key without meaning (9) is no send key (8), a send key is neither typed nor delete (6), a guarded cell
-- (6) has no class (7). Each comes with 5, and then alone.
unfoldable pub order : List Case
order =
    both "refusal 1 goes before 2 to 5 and 9" 1 1 (line 0 (31 ∷ characters "bcd") 4)
    ∷ both "refusal 2 goes before 3 to 5 and 9" 2 1 (line 5 (31 ∷ characters "bcd") 5)
    ∷ both "refusal 3 goes before 4, 5 and 9" 3 1 (line 4 (31 ∷ characters "bcd") 4)
    ∷ both "refusal 4 goes before 5 and 9" 4 1 (line 4 (characters "abcd") 4)
    ∷ both "refusal 5 goes before 9" 5 35 (line 4 (characters "abcd") 0)
    ∷ denied "refusal 9, a key with no meaning" (line 4 (characters "abcd") 0)
    (map (λ k. (9, 36, k)) (0 ∷ 1 ∷ 7 ∷ 10 ∷ 12 ∷ 14 ∷ 31 ∷ 144 ∷ 255 ∷ []))
    ∷ denied "refusal 8, send or function key, DET off" off
    ((5, 71, 13) ∷ (5, 71, 128) ∷ (8, 72, 13) ∷ (8, 72, 128) ∷ (8, 72, 136) ∷ (8, 72, 143) ∷ (9, 72, 144) ∷ [])
    ∷ denied "refusal 6, typed or delete on a guarded cell" (label false 1 0)
    ((5, 71, char "x") ∷ (5, 71, 127) ∷ (6, 72, char "x") ∷ (6, 72, 127) ∷ [])
    ∷ denied "refusal 7, typed not of the cell's class" (cell 24 false) ((5, 8, char "x") ∷ (7, 9, char "x") ∷ [])
    ∷ []

pub order_pass : Passes order
unfolding computing seeing order
order_pass = (tt, (tt, (tt, (tt, (tt, (tt, (tt, (tt, (tt, tt)))))))))

unfoldable pub refusals : List Case
refusals =
    case "without DET the other keys are taken" off
    (types "x" 3 0 "ABxdeFGH" ∷ deletes 3 0 "ABx eFGH" ∷ press 8 2 0 [] ∷ press 9 2 0 [] ∷ [])
    ∷ both "refusal 1, too wide" 1 1197 (starting 133 1 false (replicate 133 32) (replicate 133 0) 0 0)
    ∷ both "refusal 1, too high" 1 585 (starting 1 65 false (replicate 65 32) (replicate 65 0) 0 0)
    ∷ both "refusal 1, no line" 1 2 (starting 4 0 false [] [] 0 0)
    ∷ both "refusal 2, the character buffer" 2 36 (line 4 (characters "abc") 0)
    ∷ both "refusal 2, the attribute buffer" 2 27 (line 3 (characters "abc") 0)
    ∷ both "refusal 3, a character 31" 3 36 (line 4 (31 ∷ characters "bcd") 0)
    ∷ both "refusal 3, a character 127" 3 36 (line 4 (characters "abc" ++ (127 ∷ [])) 0)
    ∷ case "characters 32 and 126 are taken" (line 4 (characters "a ~d") 0) (host_trial 36 (characters "x") 1 (see 1 0 "x ~d") [] ∷ [])
    ∷ both "refusal 4, the cursor off the screen in x" 4 72 (label false 4 0)
    ∷ both "refusal 4, the cursor off the screen in y" 4 72 (label false 0 2)
    ∷ both "refusal 4, more than six bytes held" 4 72 (holds (replicate 7 0))
    ∷ case "a key with six bytes held leaves the reader" (holds (replicate 6 1)) (types "x" 3 0 "ABxdeFGH" ∷ [])
    ∷ case "bytes held at rest are not the next command's" (holds (replicate 6 1))
    (reads (det (11 ∷ [])) (λ s. reading Rest [] (at 3 0 s)) [] ∷ [])
    ∷ form "reply room 72 accepted, 71 refused 5" 2 0
    (hears (det (17 ∷ [])) (det (18 ∷ 2 ∷ 0 ∷ [])) ∷ refused_trial 5 71 (heard (det (17 ∷ []))) ∷ [])
    ∷ []

pub refusals_pass : Passes refusals
unfolding computing seeing refusals
refusals_pass = (tt, (tt, (tt, (tt, (tt, (tt, (tt, (tt, (tt, (tt, (tt, (tt, (tt, (tt, (tt, tt)))))))))))))))

-- ---- open

-- What it leaves: DET off, protection in effect, cursor (0,0), nothing half read or held. Lent are characters 200, attribute bytes 9 and marks 1.
abbrev begun : ℕ → ℕ → List ℕ → List ℕ → State
begun m n chars attrs = det_off (starting m n false chars attrs 0 0)

abbrev opens : String → ℕ → ℕ → Case
opens title m n =
    let cells = n * m in
    opening title m n 732 (screen (replicate cells 200) (replicate cells 9) (replicate cells 1)) 0
    (unmarked (begun m n (replicate cells 32) (replicate cells 0)))

-- refused, with so many cells lent: the buffers as they came, and a session with M and N 0
abbrev declines : String → ℕ → ℕ → ℕ → ℕ → ℕ → Case
declines title number m n chars attrs =
    opening title m n 732 (screen (replicate chars 200) (replicate attrs 9) (replicate chars 1)) number
    (begun 0 0 (replicate chars 200) (replicate attrs 9))

unfoldable pub opened_cases : List Case
opened_cases =
    opens "open leaves a blank screen, DET off" 4 2
    ∷ opens "open of 1 by 1" 1 1 ∷ opens "M 132 accepted" 132 1 ∷ opens "N 64 accepted" 1 64
    ∷ declines "M 133 refused 1" 1 133 1 133 133 ∷ declines "N 65 refused 1" 1 1 65 65 65
    ∷ declines "M 0 refused 1" 1 0 2 0 0 ∷ declines "N 0 refused 1" 1 4 0 0 0
    ∷ declines "open: character buffer not C long, refused 2" 2 4 2 7 8
    ∷ declines "open: attribute buffer not C long, refused 2" 2 4 2 8 9
    ∷ declines "open: refusal 1 goes before 2" 1 133 2 3 4
    ∷ []

pub opened_pass : Passes opened_cases
unfolding computing seeing opened_cases
opened_pass = (tt, (tt, (tt, (tt, (tt, (tt, (tt, (tt, (tt, (tt, (tt, tt)))))))))))

-- the largest screen
pub largest : told_number (opened 132 64 732 (blank 8448)).answer.verdict ≡ 0
unfolding computing
largest = refl

-- ---- all of them

unfoldable pub shut : List Case
shut =
    classes ++ (fields ++ (guards ++ (moves ++ (edits ++ (formatting ++
    (errors ++ (telnet ++ (data_cases ++ (order ++ (refusals ++ opened_cases))))))))))

pub shut_holds : observed shut ≡ expected shut
unfolding shut
shut_holds =
    each_equal shut
    (all_pass classes _ classes_pass (all_pass fields _ fields_pass (all_pass guards _ guards_pass (all_pass moves _ moves_pass
    (all_pass edits _ edits_pass (all_pass formatting _ formatting_pass (all_pass errors _ errors_pass (all_pass telnet _ telnet_pass
    (all_pass data_cases _ data_pass (all_pass order _ order_pass (all_pass refusals _ refusals_pass opened_pass)))))))))))

-- Document 02, request (i): worked cases of the X.3 PAD in the session. Each list has a theorem that names the case that fails, and
-- `slow_holds` is over all of them.
use Rattle.std.proofs.Common.{◌≡◌, refl, ◌∙◌, Bool, true, false, not, ◌&&◌, ◌||◌, List, [], ◌∷◌, ◌++◌, ℕ, ◌-◌, ltb, length, replicate, if◌then◌else◌}
use Prim.Native.String.{String}
use Rattle.words.specs.Words.{between}
use Rattle.words.proofs.Laws.{true_or_false, and_left, and_right}
use Rattle.telnet.specs.declared.Phase.TheVariants.{Rest, Inside}
use Rattle.telnet.specs.Writer.{subnegotiation}
use Rattle.pad.specs.declared.message.Message.{Message}
use Rattle.pad.specs.declared.message.Stage.TheVariants.{Code, Parameter, Value}
use Rattle.pad.specs.Parameters.{start_values}
use Rattle.pad.specs.Line.{text_of, line_of}
use Rattle.pad.specs.Message.{with_pairs, idle_message}
use Rattle.typing.specs.Keys.{line_after}
use Rattle.rules.specs.declared.Pad.{Pad}
use Rattle.rules.specs.Session.{State, pad_with}
use Rattle.rules.specs.Refusal.{is_taken, verdict}
use Rattle.rules.specs.Pad.{line_tests, pad_typed}
use Rattle.rules.specs.Operation.{press_tests, key_ran}
use Rattle.rules.specs.Call.{key, called}
use Rattle.rules.specs.Cases.Computing.{computing}
use Rattle.rules.specs.Cases.Vocabulary.{
  look,
  lent,
  Brief,
  brief,
  Case,
  Trial,
  Passes,
  Sweep,
  sweep,
  if_none,
  Everywhere,
  same,
  same_beside,
  failures,
  characters,
  case,
  starting,
  at,
  modes,
  det_off,
  reading,
  after_cr,
  x3_switched,
  padded,
  showing,
  unchanged,
  verb,
  host_trial,
  key_trial,
  refused_trial,
  heard,
  struck,
  observed,
  expected,
  seeing,
}
use Rattle.rules.proofs.Verdicts.{taken_is}
use Rattle.rules.proofs.Passing.{each_equal, all_pass, same_equal, below_passes, briefly, Swept, everywhere}
use Rattle.rules.proofs.Ready.{passing, ready, key_full, pad_kept}
-- the cases of document 01 are checked first
use Rattle.rules.proofs.Shut.{shut_holds}

-- ---- starts

-- the PAD with these pairs set from the start, this text in its line, and nothing half read
abbrev holding : List ℕ → List ℕ → Pad
holding pairs text = pad_with (with_pairs start_values pairs) (line_of text) idle_message

-- the same while a message is read: what is next, and the pairs of the copy
abbrev half : List ℕ → List ℕ → Message → Pad
half pairs text message = pad_with (with_pairs start_values pairs) (line_of text) message

-- m cells in a row, DET off, option 30 on or off
abbrev row : ℕ → Bool → Pad → State
row m on p = padded p (x3_switched on (modes false false (starting m 1 false (replicate m 32) (replicate m 0) 0 0)))

-- 20 by 2, blank, nothing protected, DET off and 30 on; the least reply room is 360
abbrev ward : List ℕ → List ℕ → State
ward pairs text =
    padded (holding pairs text) (x3_switched true (modes false false (starting 20 2 false (replicate 40 32) (replicate 40 0) 0 0)))

-- afterwards: the cursor, the screen's text, the pairs set and the line
abbrev shows : ℕ → ℕ → String → List ℕ → List ℕ → State → State
shows x y text pairs line s =
    padded (holding pairs line) (at x y (showing (characters text ++ replicate (40 - length (characters text)) 32) s))

-- ---- calls

-- a message of option 30
abbrev x3 : List ℕ → List ℕ
x3 payload = subnegotiation 30 payload

-- host bytes, all of them taken
abbrev bytes : List ℕ → (State → State) → List ℕ → Trial
bytes input leaves replies = host_trial 360 input (length input) leaves replies

abbrev short : ℕ → List ℕ → (State → State) → List ℕ → Trial
short room input leaves replies = host_trial room input (length input) leaves replies

abbrev types : ℕ → (State → State) → List ℕ → Trial
types k leaves replies = key_trial 360 k leaves replies

-- ---- option 30

unfoldable pub switching : List Case
switching =
    case "DO 30 and DONT 30 from 37 cells up" (row 37 false (holding [] []))
    (short 333 (verb 253 30) (x3_switched true) (verb 251 30) ∷ short 333 (verb 253 30) unchanged []
    ∷ short 333 (verb 254 30) (x3_switched false) (verb 252 30) ∷ short 333 (verb 254 30) unchanged [] ∷ [])
    ∷ case "DO 30 at 36 cells is declined each time" (row 36 false (holding [] []))
    (short 324 (verb 253 30) unchanged (verb 252 30) ∷ short 324 (verb 253 30) unchanged (verb 252 30) ∷ [])
    ∷ case "WILL 30 is answered DONT, WONT not" (ward [] [])
    (bytes (verb 251 30) unchanged (verb 254 30) ∷ bytes (verb 252 30) unchanged [] ∷ [])
    ∷ case "DONT 30 empties the line, unsent, and leaves suppression and values" (modes true true (ward (3 ∷ 2 ∷ []) (characters "ab")))
    (bytes (verb 254 30) (λ s. x3_switched false (padded (holding (3 ∷ 2 ∷ []) []) s)) (verb 252 30) ∷ [])
    ∷ case "DONT 30 while off leaves a line" (x3_switched false (ward [] (characters "ab"))) (bytes (verb 254 30) unchanged [] ∷ [])
    ∷ case "DONT 20 and DO 30 leave the line" (modes true false (x3_switched false (ward [] (characters "ab"))))
    (bytes (verb 254 20) det_off (verb 252 20) ∷ bytes (verb 253 30) (x3_switched true) (verb 251 30) ∷ [])
    ∷ []

pub switching_pass : Passes switching
unfolding computing seeing switching
switching_pass = (tt, (tt, (tt, (tt, (tt, (tt, tt))))))

-- ---- messages

unfoldable pub messages : List Case
messages =
    case "SEND at the start" (ward [] [])
    (bytes (x3 (4 ∷ [])) unchanged
    (0xff ∷ 0xfa ∷ 0x1e ∷ 3 ∷ 0 ∷ 0 ∷ 1 ∷ 0 ∷ 2 ∷ 0 ∷ 3 ∷ 0 ∷ 4 ∷ 0 ∷ 5 ∷ 0 ∷ 6 ∷ 0 ∷ 7 ∷ 0 ∷ 8 ∷ 0 ∷ 9 ∷ 0 ∷ 10 ∷ 0 ∷ 11 ∷ 0 ∷ 12 ∷ 0
    ∷ 13 ∷ 0 ∷ 14 ∷ 0 ∷ 15 ∷ 0 ∷ 16 ∷ 0 ∷ 17 ∷ 0 ∷ 18 ∷ 0 ∷ 19 ∷ 0 ∷ 20 ∷ 0 ∷ 21 ∷ 0 ∷ 22 ∷ 0 ∷ 128 ∷ 0 ∷ 0xff ∷ 0xf0 ∷ [])
    ∷ [])
    ∷ case "SEND with extension set 1, 255 doubled" (ward (10 ∷ 255 ∷ 20 ∷ 255 ∷ 128 ∷ 1 ∷ 129 ∷ 23 ∷ []) [])
    (bytes (x3 (4 ∷ [])) unchanged
    (0xff ∷ 0xfa ∷ 0x1e ∷ 3 ∷ 0 ∷ 0 ∷ 1 ∷ 0 ∷ 2 ∷ 0 ∷ 3 ∷ 0 ∷ 4 ∷ 0 ∷ 5 ∷ 0 ∷ 6 ∷ 0 ∷ 7 ∷ 0 ∷ 8 ∷ 0 ∷ 9 ∷ 0 ∷ 10 ∷ 0xff ∷ 0xff ∷ 11 ∷ 0 ∷ 12 ∷ 0
    ∷ 13 ∷ 0 ∷ 14 ∷ 0 ∷ 15 ∷ 0 ∷ 16 ∷ 0 ∷ 17 ∷ 0 ∷ 18 ∷ 0 ∷ 19 ∷ 0 ∷ 20 ∷ 0xff ∷ 0xff ∷ 21 ∷ 0 ∷ 22 ∷ 0
    ∷ 128 ∷ 1 ∷ 129 ∷ 23 ∷ 130 ∷ 19 ∷ 131 ∷ 17 ∷ 132 ∷ 0 ∷ 0xff ∷ 0xf0 ∷ [])
    ∷ [])
    ∷ case "SET acts at its end, RESPONSE-SET too" (ward [] [])
    (bytes (0xff ∷ 0xfa ∷ 30 ∷ 0 ∷ 2 ∷ 1 ∷ [])
    (λ s. padded (half [] [] (record { stage = Parameter 0; copy = with_pairs start_values (2 ∷ 1 ∷ []) })) (reading (Inside 30) (0 ∷ 2 ∷ 1 ∷ []) s)) []
    ∷ bytes (0xff ∷ 0xf0 ∷ []) (λ s. padded (holding (2 ∷ 1 ∷ []) []) (reading Rest [] s)) []
    ∷ bytes (x3 (1 ∷ 3 ∷ 2 ∷ [])) (padded (holding (2 ∷ 1 ∷ 3 ∷ 2 ∷ []) [])) [] ∷ [])
    ∷ case "a message longer than the bytes held" (ward [] [])
    (bytes (x3 (0 ∷ 2 ∷ 1 ∷ 4 ∷ 1 ∷ 3 ∷ 2 ∷ 23 ∷ 1 ∷ 15 ∷ 1 ∷ [])) (padded (holding (2 ∷ 1 ∷ 3 ∷ 2 ∷ 15 ∷ 1 ∷ []) [])) [] ∷ [])
    ∷ case "a parameter without its value: all is ignored" (ward [] []) (bytes (x3 (0 ∷ 2 ∷ 1 ∷ 3 ∷ [])) unchanged [] ∷ [])
    ∷ case "unknown codes and no code: all is ignored" (ward [] [])
    (bytes (x3 []) unchanged [] ∷ bytes (x3 (2 ∷ 2 ∷ 1 ∷ [])) unchanged [] ∷ bytes (x3 (5 ∷ 2 ∷ 1 ∷ [])) unchanged [] ∷ [])
    ∷ case "a message that is thrown away does nothing" (ward [] [])
    (bytes (0xff ∷ 0xfa ∷ 30 ∷ 0 ∷ 2 ∷ 1 ∷ verb 253 3) unchanged (verb 252 3) ∷ [])
    ∷ case "ignored while 30 is off" (x3_switched false (ward [] []))
    (bytes (x3 (0 ∷ 2 ∷ 1 ∷ [])) unchanged [] ∷ bytes (x3 (4 ∷ [])) unchanged [] ∷ [])
    ∷ case "obeyed while DET is on" (modes true false (ward [] [])) (bytes (x3 (0 ∷ 2 ∷ 1 ∷ [])) (padded (holding (2 ∷ 1 ∷ []) [])) [] ∷ [])
    -- forged: a message half read outside any
    ∷ case "any option byte clears what is half read" (padded (half [] [] (record { stage = Value 0 2; copy = start_values })) (ward [] []))
    (bytes (0xff ∷ 0xfa ∷ 21 ∷ []) (λ s. padded (holding [] []) (reading (Inside 21) [] s)) [] ∷ [])
    ∷ case "IAC SB IAC SE clears it too" (padded (half [] [] (record { stage = Value 0 2; copy = start_values })) (ward [] []))
    (bytes (0xff ∷ 0xfa ∷ 0xff ∷ 0xf0 ∷ []) (padded (holding [] [])) [] ∷ [])
    ∷ case "what is half read of another option does not act" (padded (half [] [] (record { stage = Parameter 0; copy = with_pairs start_values (2 ∷ 1 ∷ []) })) (reading (Inside 21) [] (ward [] [])))
    (bytes (7 ∷ 0xff ∷ 0xf0 ∷ []) (λ s. padded (holding [] []) (reading Rest [] s)) [] ∷ [])
    ∷ []

pub messages_pass : Passes messages
unfolding computing seeing messages
messages_pass = (tt, (tt, (tt, (tt, (tt, (tt, (tt, (tt, (tt, (tt, (tt, (tt, tt))))))))))))

-- ---- keys

-- echo, forwarding at CR, x3Switched with BS as character delete and signals for a display
abbrev display : List ℕ
display = 2 ∷ 1 ∷ 3 ∷ 2 ∷ 15 ∷ 1 ∷ 16 ∷ 8 ∷ 19 ∷ 2 ∷ []

-- signals for a printer, line delete 21, line display 18
abbrev printer : List ℕ
printer = 2 ∷ 1 ∷ 3 ∷ 2 ∷ 15 ∷ 1 ∷ 16 ∷ 8 ∷ 19 ∷ 1 ∷ 17 ∷ 21 ∷ 18 ∷ 18 ∷ []

unfoldable pub typing : List Case
typing =
    case "typed, edited, forwarded" (ward display [])
    (types 97 (shows 1 0 "a" display (97 ∷ [])) [] ∷ types 98 (shows 2 0 "ab" display (97 ∷ 98 ∷ [])) []
    ∷ types 8 (shows 1 0 "a " display (97 ∷ [])) [] ∷ types 99 (shows 2 0 "ac" display (97 ∷ 99 ∷ [])) []
    ∷ types 13 (shows 0 0 "ac" display []) (97 ∷ 99 ∷ 13 ∷ 0 ∷ []) ∷ [])
    ∷ case "CR sent and echoed with LF" (ward (13 ∷ 6 ∷ display) (97 ∷ []))
    (types 13 (shows 0 1 "" (13 ∷ 6 ∷ display) []) (97 ∷ 13 ∷ 10 ∷ []) ∷ [])
    ∷ case "signals for a printer, the line displayed and deleted" (ward printer (97 ∷ 98 ∷ []))
    (types 8 (shows 1 0 "\\" printer (97 ∷ [])) [] ∷ types 18 (shows 2 0 "\\a" printer (97 ∷ [])) []
    ∷ types 21 (shows 0 1 "\\aXXX" printer []) [] ∷ [])
    ∷ case "an echo's LF after a CR is obeyed" (after_cr true (ward (2 ∷ 1 ∷ []) []))
    (types 10 (shows 0 1 "" (2 ∷ 1 ∷ []) (10 ∷ [])) [] ∷ [])
    ∷ case "a full line: 10 for a plain key, none for an edit key" (ward (15 ∷ 1 ∷ 16 ∷ 127 ∷ []) (replicate 128 65))
    (refused_trial 10 360 (struck 65) ∷ types 127 (padded (holding (15 ∷ 1 ∷ 16 ∷ 127 ∷ []) (replicate 127 65))) []
    ∷ types 65 (padded (holding (15 ∷ 1 ∷ 16 ∷ 127 ∷ []) (replicate 128 65))) [] ∷ [])
    ∷ case "a full line goes out with its forwarding key" (ward (3 ∷ 8 ∷ []) (replicate 128 65))
    (types 127 (padded (holding (3 ∷ 8 ∷ []) [])) (replicate 128 65 ++ (127 ∷ [])) ∷ [])
    ∷ case "echo on a guarded cell is dropped, class is not tested"
    (padded (holding (2 ∷ 1 ∷ []) []) (x3_switched true (modes false false (starting 20 2 false (replicate 40 32) (24 ∷ 8 ∷ replicate 38 0) 0 0))))
    (key_trial 360 65 (λ s. padded (holding (2 ∷ 1 ∷ []) (65 ∷ [])) (at 1 0 (showing (65 ∷ replicate 39 32) s))) []
    ∷ key_trial 360 66 (padded (holding (2 ∷ 1 ∷ []) (65 ∷ 66 ∷ []))) [] ∷ [])
    ∷ case "DET on: the line is kept, keys are document 01's" (ward (3 ∷ 2 ∷ []) (97 ∷ []))
    (bytes (verb 253 20) (modes true false) (verb 251 20) ∷ types 98 (λ s. at 1 0 (showing (98 ∷ replicate 39 32) s)) []
    ∷ types 127 unchanged [] ∷ bytes (verb 254 20) det_off (verb 252 20)
    ∷ types 13 (padded (holding (3 ∷ 2 ∷ []) [])) (97 ∷ 13 ∷ 0 ∷ []) ∷ [])
    ∷ case "output is not discarded, whatever parameter 8" (ward (8 ∷ 1 ∷ []) []) (bytes (characters "x") (shows 1 0 "x" (8 ∷ 1 ∷ []) []) [] ∷ [])
    ∷ []

pub typing_pass : Passes typing
unfolding computing seeing typing
typing_pass = (tt, (tt, (tt, (tt, (tt, (tt, (tt, (tt, (tt, tt)))))))))

-- ---- host data

unfoldable pub lines : List Case
lines =
    case "CR LF is printed as CR" (ward [] []) (bytes (characters "AB" ++ (13 ∷ 10 ∷ characters "C")) (shows 1 0 "CB" [] []) [] ∷ [])
    ∷ case "CR LF is printed as such with bit 1 of 13" (ward (13 ∷ 1 ∷ []) [])
    (bytes (13 ∷ 10 ∷ []) (at 0 1) [] ∷ [])
    ∷ case "CR and LF in two calls, a key between" (ward [] [])
    (bytes (13 ∷ []) (after_cr true) [] ∷ types 97 (padded (holding [] (97 ∷ []))) [] ∷ bytes (verb 252 3) unchanged []
    ∷ bytes (10 ∷ []) (after_cr false) [] ∷ bytes (10 ∷ []) (at 0 1) [] ∷ [])
    ∷ case "subnegotiations that end, have no option and are thrown away between them" (ward [] [])
    (bytes (13 ∷ 255 ∷ 250 ∷ 3 ∷ 9 ∷ 255 ∷ 240 ∷ 255 ∷ 250 ∷ 255 ∷ 240 ∷ 255 ∷ 250 ∷ 3 ∷ 9 ∷ 255 ∷ 252 ∷ 3 ∷ 10 ∷ []) unchanged [] ∷ [])
    ∷ case "IAC IAC between them is a byte of data" (ward [] []) (bytes (13 ∷ 255 ∷ 255 ∷ 10 ∷ []) (at 0 1) [] ∷ [])
    ∷ case "LF is obeyed while DET is on" (modes true false (ward [] [])) (bytes (13 ∷ 10 ∷ []) (at 0 1) [] ∷ [])
    ∷ case "LF is obeyed while 30 is off" (x3_switched false (ward [] [])) (bytes (13 ∷ 10 ∷ []) (at 0 1) [] ∷ [])
    ∷ []

pub lines_pass : Passes lines
unfolding computing seeing lines
lines_pass = (tt, (tt, (tt, (tt, (tt, (tt, (tt, tt)))))))

-- ---- refusal 4

-- each is refused 4, by host bytes and by a key
abbrev refused : String → State → Case
refused title s = case title s (refused_trial 4 282 (heard (65 ∷ [])) ∷ refused_trial 4 282 (struck 65) ∷ [])

abbrev forged : Pad → State
forged p = padded p (ward [] [])

unfoldable pub ranges : List Case
ranges =
    refused "refusal 4, option 30 on at 36 cells" (row 36 true (holding [] []))
    ∷ refused "refusal 4, a value that is not admissible" (forged (pad_with (record { held = replicate 4 0 ++ (1 ∷ replicate 23 0) }) (line_of []) idle_message))
    ∷ refused "refusal 4, one in the copy" (forged (pad_with start_values (line_of []) (record { stage = Code; copy = record { held = replicate 21 0 ++ (4 ∷ replicate 6 0) } })))
    ∷ refused "refusal 4, a line above 128" (forged (pad_with start_values (record { bytes = replicate 128 65; len = 129 }) idle_message))
    ∷ refused "refusal 4, a character above 127 in the line" (forged (pad_with start_values (record { bytes = 65 ∷ 128 ∷ replicate 126 0; len = 2 }) idle_message))
    -- past the line's length any byte may stand; a key that the line takes leaves zeros there
    ∷ case "bytes past the line's length have no range" (forged (pad_with start_values (record { bytes = 65 ∷ replicate 127 255; len = 1 }) idle_message))
    (bytes [] unchanged [] ∷ types 66 (padded (holding [] (65 ∷ 66 ∷ []))) [] ∷ [])
    ∷ []

pub ranges_pass : Passes ranges
unfolding computing seeing ranges
ranges_pass = (tt, (tt, (tt, (tt, (tt, (tt, tt))))))

-- ---- every key while the line takes the keys: 37 cells in a row, the start's parameters; the least reply room is 333

abbrev taking : State
taking = row 37 true (holding [] [])

unfoldable pub line_does : ℕ → Brief
line_does k = if ltb k 128 then brief 0 1 taking [] else if between 128 143 k then brief 8 0 taking [] else brief 9 0 taking []

-- the PAD that each leaves
unfoldable pub line_leaves : ℕ → Pad
line_leaves k = holding [] (if ltb k 128 then k ∷ [] else [])

abbrev line_sweep : Sweep
line_sweep =
    sweep "every key while the line takes them" 333 (λ k. look (called taking (key k (replicate 333 lent)))) line_leaves line_does

abbrev line_told : ℕ → Brief
line_told k = briefly (verdict (press_tests taking k)) taking 1 (key_ran taking k)

line_beside : if_none (failures (λ k. same_beside (line_told k) (line_sweep.shows k)) 256) line_sweep.title
unfolding computing seeing line_does line_leaves
line_beside = tt

-- a key that the line takes is not refused, and stands in it alone
abbrev alone : ℕ → Bool
alone k =
    let p = taking.session.pad in
    is_taken (verdict (line_tests p k)) && same (line_after p.values (text_of p.line) k) (k ∷ [])

line_alone : failures (λ k. not (ltb k 128) || alone k) 256 ≡ []
unfolding computing seeing
line_alone = refl

line_pad : (k : ℕ) → (not (ltb k 128) || alone k) ≡ true → (line_told k).left.session.pad ≡ line_leaves k
unfolding line_leaves pad_typed with_pairs
line_pad k e =
    true_or_false (ltb k 128)
    (λ t.
    let a : alone k ≡ true = rw t at e in
    rw (t, taken_is (verdict (line_tests taking.session.pad k)) (and_left (is_taken (verdict (line_tests taking.session.pad k))) _ a))
    (rw (same_equal _ (k ∷ []) (and_right (is_taken (verdict (line_tests taking.session.pad k))) _ a))))
    (λ t. pad_kept (verdict (press_tests taking k)) taking 1 (key_ran taking k) (rw t) ∙ rw t)

line_swept : Swept line_sweep line_told
unfolding computing seeing ready passing
line_swept =
    record {
      full = λ k. key_full taking 333 refl k;
      pad = λ k h. line_pad k (below_passes (λ k. not (ltb k 128) || alone k) 256 line_alone k h);
      beside = line_beside;
    }

pub every_line_key : Everywhere line_sweep
every_line_key = everywhere line_swept

-- ---- all cases

unfoldable pub slow : List Case
slow = switching ++ (messages ++ (typing ++ (lines ++ ranges)))

pub slow_holds : observed slow ≡ expected slow
unfolding slow
slow_holds =
    each_equal slow
    (all_pass switching _ switching_pass
    (all_pass messages _ messages_pass (all_pass typing _ typing_pass (all_pass lines _ lines_pass ranges_pass))))

-- A reply of 258 bytes is reached: a full line of CRs, and the forwarding CR.
pub pad_reached : length (key_ran (row 37 true (holding (3 ∷ 2 ∷ []) (replicate 128 13))) 13).replies ≡ 258
unfolding computing
pad_reached = refl

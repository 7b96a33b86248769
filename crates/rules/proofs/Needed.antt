-- Demand 3, its premises: all can be met at once (`met`), and where one of the seven is executed they do not suffice (`each_needed`).
use Rattle.std.proofs.Common.{◌≡◌, refl, sym, ap, ◌∙◌, Bool, true, false, ◌&&◌, List, [], ◌∷◌, ◌++◌, map, ℕ, ◌<◌, arith, eq-eqb, eqb, length, get_or, take, replicate, get_or-set_other, if◌then◌else◌}
use Rattle.telnet.specs.Writer.{subnegotiation}
use Rattle.screen.specs.Attributes.{protected_at}
use Rattle.words.proofs.Laws.{not_both, both}
use Rattle.rules.specs.declared.Session.{Session}
use Rattle.rules.specs.Session.{State, all_printable, screen, state}
use Rattle.rules.specs.Effect.{Executed}
use Rattle.rules.specs.Command.{code_in, reaches_past}
use Rattle.rules.specs.Call.{Call, host, key, Answered, answers_of, state_after, executed_of}
use Rattle.rules.specs.Cases.Computing.{computing}
use Rattle.rules.specs.Cases.Vocabulary.{characters, same, starting}
use Rattle.rules.specs.Noninterference.{none_reaches, Alike, Untold}
-- the sentences of document 01 are checked first, so that a wrong rule is refused there
use Rattle.rules.proofs.Causes.{nothing_else}

-- ---- two screens: form F with patient number #4 and with #5; the digit, cell 7, is protected

abbrev attrs : List ℕ
attrs = replicate 3 8 ++ (replicate 3 0 ++ (replicate 7 8 ++ replicate 3 0))

-- the weight's first cell is marked, and a protected one
abbrev marks : List ℕ
marks = replicate 3 0 ++ (1 ∷ (replicate 3 0 ++ (1 ∷ replicate 8 0)))

abbrev at : ℕ → ℕ → Session
at x y = (starting 8 2 false [] attrs x y).session

unfoldable pub four : List ℕ
four = characters "WT 70 #4UNIT mg "

unfoldable pub five : List ℕ
five = characters "WT 70 #5UNIT mg "

-- every premise of demand 3 but the one on the seven
pub record Premised (s : Session) (attrs c d : List ℕ) : Type 0 where
  pub in_effect : s.frame.suppressed ≡ false
  pub printable_first : all_printable c ≡ true
  pub printable_second : all_printable d ≡ true
  pub alike : Alike attrs c d

-- `five` is `four` with 53, the digit 5, in cell 7
same_beside_lem : (i : ℕ) → protected_at attrs i ≡ false → get_or four i 0 ≡ get_or five i 0
unfolding computing four five characters
same_beside_lem i e = sym (get_or-set_other four 7 i 53 0 (λ h. not_both true refl (sym (ap (protected_at attrs) h) ∙ e)))

premised : (x y : ℕ) → Premised (at x y) attrs four five
unfolding computing four five characters
premised x y =
    record {
      in_effect = refl;
      printable_first = refl;
      printable_second = refl;
      alike = record { long = refl; unprotected = λ i h e. same_beside_lem i e };
    }

-- ---- calls with reply room 144, and what is seen of them

abbrev press : ℕ → Call
press k = key k (replicate 144 0)

abbrev bytes : List ℕ → Call
bytes input = host input (replicate 144 0)

abbrev command : List ℕ → Call
command payload = bytes (subnegotiation 20 payload)

-- all reply bytes, one call's after the other's
unfoldable pub spoken : List Answered → List ℕ
spoken [] = []
spoken (a ∷ answers) = take a.answer.written a.reply ++ spoken answers

-- the codes of those of the seven that are among the executed
unfoldable pub past : List Executed → List ℕ
past [] = []
past (e ∷ es) = (if reaches_past e.row e.held then code_in e.held ∷ [] else []) ++ past es

-- ---- the premises can be met

-- each code that is not of the seven, those that take parameters with several values; 38 with each value but 253
unfoldable pub harmless : List (List ℕ)
harmless =
    (1 ∷ 0 ∷ []) ∷ (1 ∷ 253 ∷ []) ∷ (1 ∷ 255 ∷ []) ∷ (2 ∷ 0 ∷ []) ∷ (2 ∷ 31 ∷ []) ∷ (3 ∷ 0 ∷ []) ∷ (3 ∷ 255 ∷ [])
    ∷ (4 ∷ 253 ∷ 20 ∷ []) ∷ (4 ∷ 255 ∷ 255 ∷ []) ∷ (6 ∷ 255 ∷ []) ∷ (7 ∷ 255 ∷ []) ∷ (5 ∷ 0 ∷ 0 ∷ []) ∷ (5 ∷ 3 ∷ 1 ∷ []) ∷ (5 ∷ 7 ∷ 0 ∷ [])
    ∷ (8 ∷ []) ∷ (9 ∷ []) ∷ (10 ∷ []) ∷ (11 ∷ []) ∷ (12 ∷ []) ∷ (13 ∷ []) ∷ (14 ∷ []) ∷ (15 ∷ []) ∷ (16 ∷ []) ∷ (17 ∷ []) ∷ (19 ∷ [])
    ∷ (21 ∷ []) ∷ (23 ∷ []) ∷ (26 ∷ []) ∷ (27 ∷ []) ∷ (30 ∷ []) ∷ (31 ∷ []) ∷ (32 ∷ []) ∷ (33 ∷ []) ∷ (34 ∷ []) ∷ (35 ∷ [])
    ∷ (37 ∷ 0 ∷ 32 ∷ []) ∷ (37 ∷ 1 ∷ 66 ∷ []) ∷ (37 ∷ 253 ∷ 65 ∷ []) ∷ (38 ∷ 254 ∷ []) ∷ (38 ∷ 251 ∷ []) ∷ (38 ∷ 252 ∷ [])
    ∷ (41 ∷ 5 ∷ 3 ∷ []) ∷ (41 ∷ 253 ∷ 253 ∷ [])
    ∷ []

-- Of the seven, those that are not executed: a 20 and two 36 that draw ERROR 9, 12 and 11; a 20 in a call refused for its room of
-- 143; a 20 left untaken, the 17 before it having been answered; a 20 after DONT 20, and a 22 after DO 20, which is not agreed.
unfoldable pub attempts : List Call
attempts =
    command (20 ∷ 0 ∷ []) ∷ command (36 ∷ 32 ∷ 0 ∷ 0 ∷ 1 ∷ []) ∷ command (36 ∷ 8 ∷ 0 ∷ 1 ∷ 0 ∷ [])
    ∷ host (subnegotiation 20 (20 ∷ [])) (replicate 143 0)
    ∷ bytes (subnegotiation 20 (17 ∷ []) ++ subnegotiation 20 (20 ∷ []))
    ∷ bytes (0xff ∷ 0xfe ∷ 20 ∷ []) ∷ command (20 ∷ []) ∷ bytes (0xff ∷ 0xfd ∷ 20 ∷ []) ∷ command (22 ∷ []) ∷ []

-- The operator types 8 over the 7, deletes the 0, tabs to "mg ", sends. The host writes 75, runs each of the harmless, and attempts.
unfoldable pub busy : List Call
busy =
    press 56 ∷ press 127 ∷ press 9 ∷ press 13 ∷ bytes (characters "75") ∷ (map (λ payload. command payload) harmless ++ attempts)

abbrev begin : State
begin = state (at 3 0) (screen four attrs marks)

pub record Met : Type 0 where
  pub premised : Premised (at 3 0) attrs four five
  pub none_reaches_lem : none_reaches (executed_of begin busy) ≡ true
  pub differ : four ≡ five → ⊥
  -- the answers are not empty: the first bytes are those that key 13 sends
  pub replied :
      take 20 (spoken (answers_of begin busy))
      ≡ subnegotiation 20 (28 ∷ 3 ∷ 0 ∷ []) ++ (characters "8  " ++ (subnegotiation 20 (39 ∷ []) ++ characters "mg "))
  -- every command but the attempts, and the 17 among them
  pub executed : map (λ e. code_in e.held) (executed_of begin busy) ≡ map (λ payload. get_or payload 0 0) harmless ++ (17 ∷ [])
  pub ends : (state_after begin busy).screen.chars ≡ characters "WT BAA#4UNIT    "

differs : four ≡ five → ⊥
unfolding four five characters
differs e = let z : ◌≡◌ {A = ℕ} 52 53 = ap (λ c. get_or c 7 0) e in omega arith

pub met : Met
unfolding computing none_reaches harmless attempts busy four five characters spoken
met =
    record {
      premised = premised 3 0;
      none_reaches_lem = refl;
      differ = differs;
      replied = refl;
      executed = refl;
      ends = refl;
    }

-- ---- each of the seven is needed

-- one of the seven, where the cursor stands, the calls
pub record Reach : Type 0 where
  pub code : ℕ
  pub x : ℕ
  pub y : ℕ
  pub calls : List Call

unfoldable pub reaching : List Reach
reaching =
    -- 20, 22, 24, 25 send the digit
    record { code = 20; x = 3; y = 0; calls = command (20 ∷ []) ∷ [] }
    ∷ record { code = 22; x = 3; y = 0; calls = command (22 ∷ []) ∷ [] }
    ∷ record { code = 24; x = 3; y = 0; calls = command (24 ∷ []) ∷ [] }
    ∷ record { code = 25; x = 3; y = 0; calls = command (25 ∷ []) ∷ [] }
    -- 29 erases it
    ∷ record { code = 29; x = 3; y = 0; calls = command (29 ∷ []) ∷ [] }
    -- 36 takes its protection away, and 21 sends it; 38 suppresses protection, and 23 sends it
    ∷ record { code = 36; x = 7; y = 0; calls = command (36 ∷ 0 ∷ 0 ∷ 0 ∷ 1 ∷ []) ∷ command (21 ∷ []) ∷ [] }
    ∷ record { code = 38; x = 7; y = 0; calls = command (38 ∷ 253 ∷ []) ∷ command (23 ∷ []) ∷ [] }
    ∷ []

abbrev first : Reach → State
first r = state (at r.x r.y) (screen four attrs marks)

abbrev second : Reach → State
second r = state (at r.x r.y) (screen five attrs marks)

-- All premises but one hold, this command and no other of the seven is executed, and the conclusion fails.
pub record Needed (r : Reach) : Type 0 where
  pub premised : Premised (at r.x r.y) attrs four five
  pub only : past (executed_of (first r) r.calls) ≡ r.code ∷ []
  pub broken : Untold (at r.x r.y) attrs marks four five r.calls → ⊥

same_refl : (xs : List ℕ) → same xs xs ≡ true
unfolding same
same_refl [] = refl
same_refl (x ∷ xs) = both (eqb x x) (same xs xs) (eq-eqb x x refl) (same_refl xs)

-- A test that passes where the conclusion holds: the same reply bytes from both screens, and the first one's digit as it was.
unfoldable untold : Reach → Bool
untold r =
    same (spoken (answers_of (first r) r.calls)) (spoken (answers_of (second r) r.calls))
    && eqb (get_or (state_after (first r) r.calls).screen.chars 7 0) (get_or four 7 0)

within : 7 < length four
unfolding four characters
within = omega arith

guarded : protected_at attrs 7 ≡ true
unfolding protected_at
guarded = refl

passes : (r : Reach) → Untold (at r.x r.y) attrs marks four five r.calls → untold r ≡ true
unfolding untold
passes r i =
    both _ _ (ap (λ a. same (spoken a) (spoken (answers_of (second r) r.calls))) i.answers ∙ same_refl _)
    (eq-eqb _ _ (i.kept_first.protected 7 within guarded))

needed : (r : Reach) → past (executed_of (first r) r.calls) ≡ r.code ∷ [] → untold r ≡ false → Needed r
needed r only fails =
    record { premised = premised r.x r.y; only = only; broken = λ i. not_both (untold r) (passes r i) fails }

abbrev pub Each : (Reach → Type 0) → List Reach → Type 0
Each P [] = Unit {0}
Each P (r ∷ rs) = P r × Each P rs

pub each_needed : (map (λ r. r.code) reaching ≡ 20 ∷ 22 ∷ 24 ∷ 25 ∷ 29 ∷ 36 ∷ 38 ∷ []) × Each Needed reaching
unfolding computing reaching four five characters past spoken same untold
each_needed =
    (refl, (needed _ refl refl, (needed _ refl refl, (needed _ refl refl, (needed _ refl refl, (needed _ refl refl, (needed _ refl refl, (needed _ refl refl, tt))))))))

-- Document 01, "Worked forms": P1 to P10, one list of cases and one theorem over it.
use Rattle.std.proofs.Common.{◌≡◌, false, List, [], ◌∷◌, ◌++◌, ℕ, length, replicate}
use Prim.Native.String.{String}
use Rattle.rules.specs.Session.{State}
use Rattle.rules.specs.Cases.Computing.{computing}
use Rattle.rules.specs.Cases.Vocabulary.{Case, Trial, characters, case, starting, at, unchanged, see, host_trial, key_trial, refused_trial, struck, observed, expected, Passes, seeing}
use Rattle.rules.proofs.Passing.{each_equal}

-- Form F: 8 by 2, "WT 70 #4" over "UNIT mg "; "70 " and "mg " have attribute 0, the rest 8. DET is on, and all facilities are agreed. The
-- reply room is 144.
abbrev pub start_f : ℕ → ℕ → State
start_f x y =
    starting 8 2 false
    (characters "WT 70 #4UNIT mg ")
    (replicate 3 8 ++ (replicate 3 0 ++ (replicate 7 8 ++ replicate 3 0))) x y

abbrev form_f : String → ℕ → ℕ → List Trial → Case
form_f title x y trials = case title (start_f x y) trials

-- what is given, all of it taken; what it leaves; its reply
abbrev pub bytes : List ℕ → (State → State) → List ℕ → Trial
bytes input leaves replies = host_trial 144 input (length input) leaves replies

unfoldable pub forms : List Case
forms =
    form_f "P1 char delete" 3 0 (bytes (0xff ∷ 0xfa ∷ 0x14 ∷ 0x10 ∷ 0xff ∷ 0xf0 ∷ []) (see 3 0 "WT 0  #4UNIT mg ") [] ∷ [])
    ∷ form_f "P2 char insert" 3 0 (bytes (0xff ∷ 0xfa ∷ 0x14 ∷ 0x0f ∷ 0xff ∷ 0xf0 ∷ []) (see 3 0 "WT  70#4UNIT mg ") [] ∷ [])
    ∷ form_f "P3 transmit unprotected" 3 0
    (bytes (0xff ∷ 0xfa ∷ 0x14 ∷ 0x15 ∷ 0xff ∷ 0xf0 ∷ []) unchanged
    (0xff ∷ 0xfa ∷ 0x14 ∷ 0x1c ∷ 0x03 ∷ 0x00 ∷ 0xff ∷ 0xf0 ∷ 0x37 ∷ 0x30 ∷ 0x20
    ∷ 0xff ∷ 0xfa ∷ 0x14 ∷ 0x27 ∷ 0xff ∷ 0xf0 ∷ 0x6d ∷ 0x67 ∷ 0x20 ∷ [])
    ∷ [])
    ∷ form_f "P4 move cursor limited" 3 0
    (bytes (0xff ∷ 0xfa ∷ 0x14 ∷ 0x05 ∷ 0x09 ∷ 0x01 ∷ 0xff ∷ 0xf0 ∷ []) (at 7 1)
    (0xff ∷ 0xfa ∷ 0x14 ∷ 0x29 ∷ 0x05 ∷ 0x03 ∷ 0xff ∷ 0xf0 ∷ [])
    ∷ [])
    ∷ form_f "P4 move cursor" 3 0 (bytes (0xff ∷ 0xfa ∷ 0x14 ∷ 0x05 ∷ 0x07 ∷ 0x01 ∷ 0xff ∷ 0xf0 ∷ []) (at 7 1) [] ∷ [])
    ∷ form_f "P5 host text on a guarded cell is dropped" 6 0 (bytes (characters "A") unchanged [] ∷ [])
    ∷ form_f "P5 typed on a guarded cell, refusal 6" 6 0 (refused_trial 6 144 (struck 0x41) ∷ [])
    ∷ form_f "P6 typed, on to the next open cell" 5 0 (key_trial 144 0x38 (see 5 1 "WT 708#4UNIT mg ") [] ∷ [])
    ∷ form_f "P6 from the host, on to the next cell" 5 0 (bytes (characters "8") (see 6 0 "WT 708#4UNIT mg ") [] ∷ [])
    ∷ form_f "P7 repeat" 4 0 (bytes (0xff ∷ 0xfa ∷ 0x14 ∷ 0x25 ∷ 0x03 ∷ 0x78 ∷ 0xff ∷ 0xf0 ∷ []) (see 6 0 "WT 7xx#4UNIT mg ") [] ∷ [])
    -- one run of three commands: each in a call of its own, then all in one call
    ∷ form_f "P8 reverse tab in three calls" 6 1
    (bytes (0xff ∷ 0xfa ∷ 0x14 ∷ 0x13 ∷ 0xff ∷ 0xf0 ∷ []) (at 5 1) []
    ∷ bytes (0xff ∷ 0xfa ∷ 0x14 ∷ 0x13 ∷ 0xff ∷ 0xf0 ∷ []) (at 3 0) []
    ∷ bytes (0xff ∷ 0xfa ∷ 0x14 ∷ 0x13 ∷ 0xff ∷ 0xf0 ∷ []) (at 0 0) []
    ∷ [])
    ∷ form_f "P8 reverse tab thrice in one call" 6 1
    (bytes
    (0xff ∷ 0xfa ∷ 0x14 ∷ 0x13 ∷ 0xff ∷ 0xf0 ∷ 0xff ∷ 0xfa ∷ 0x14 ∷ 0x13 ∷ 0xff ∷ 0xf0 ∷ 0xff ∷ 0xfa ∷ 0x14 ∷ 0x13 ∷ 0xff ∷ 0xf0 ∷ [])
    (at 0 0) []
    ∷ [])
    ∷ form_f "P9 no command byte" 3 0
    (bytes (0xff ∷ 0xfa ∷ 0x14 ∷ 0xff ∷ 0xf0 ∷ []) unchanged (0xff ∷ 0xfa ∷ 0x14 ∷ 0x29 ∷ 0x00 ∷ 0x0a ∷ 0xff ∷ 0xf0 ∷ []) ∷ [])
    ∷ form_f "P10 command 255" 3 0
    (bytes (0xff ∷ 0xfa ∷ 0x14 ∷ 0xff ∷ 0xff ∷ 0xff ∷ 0xf0 ∷ []) unchanged
    (0xff ∷ 0xfa ∷ 0x14 ∷ 0x29 ∷ 0xff ∷ 0xff ∷ 0x02 ∷ 0xff ∷ 0xf0 ∷ [])
    ∷ [])
    ∷ []

-- no title of a case that fails; and so each outcome is the one stated
pub forms_pass : Passes forms
unfolding computing seeing forms
forms_pass = (tt, (tt, (tt, (tt, (tt, (tt, (tt, (tt, (tt, (tt, (tt, (tt, (tt, (tt, tt))))))))))))))

pub worked : observed forms ≡ expected forms
worked = each_equal forms forms_pass

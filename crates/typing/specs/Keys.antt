-- RFC 1053, parameters 3, 13 and 15 to 18 and 129, and document 02, request (i): what a typed key (0 to 127) is, what it does to the
-- edit line, what goes out.
use Rattle.std.specs.Prelude.{Bool, true, false, not, ◌&&◌, ◌||◌, List, [], ◌∷◌, ◌++◌, ℕ, eqb, ltb, if◌then◌else◌}
use Rattle.words.specs.Words.{between, bit}
use Rattle.pad.specs.declared.parameter.Values.{Values}
use Rattle.typing.specs.declared.key.Kind.{Kind}
use Rattle.typing.specs.declared.key.Kind.TheVariants.{DeleteCharacter, DeleteLine, DisplayLine, DeleteWord, Forward, Plain}
use Rattle.pad.specs.Parameters.{value_of}
use Rattle.pad.specs.Line.{full, pushed, without_last, without_word}

-- the number is in the list
unfoldable pub among : List ℕ → ℕ → Bool
among [] k = false
among (x ∷ xs) k = eqb k x || among xs k

-- ---- "Parameter 3": forwarding characters

abbrev pub alphanumeric : ℕ → Bool
alphanumeric k = between 48 57 k || (between 65 90 k || between 97 122 k)

-- The set that a key is in, by its code: a control character, ..
unfoldable pub control_set : ℕ → ℕ
control_set k =
    if eqb k 13 then 2  -- CR
    else if among (27 ∷ 7 ∷ 5 ∷ 6 ∷ []) k then 4  -- ESC, BEL, ENQ, ACK
    else if among (24 ∷ 18 ∷ []) k then 8  -- CAN, DC2; DEL below
    else if among (3 ∷ 4 ∷ []) k then 16  -- ETX, EOT
    else if among (9 ∷ 10 ∷ 11 ∷ 12 ∷ []) k then 32  -- HT, LF, VT, FF
    else 64  -- the others below 32

-- .. DEL, a letter or a digit. Space and punctuation are in none.
unfoldable pub forward_set : ℕ → ℕ
forward_set k =
    if ltb k 32 then control_set k
    else if eqb k 127 then 8
    else if alphanumeric k then 1
    else 0

unfoldable pub forwards : Values → ℕ → Bool
forwards vs k = bit (forward_set k) (value_of vs 3)

-- ---- what a key is

-- no edit key
abbrev pub plain_kind : Values → ℕ → Kind
plain_kind vs k = if forwards vs k then Forward else Plain

-- word delete is of extension set 1
abbrev pub deletes_word : Values → ℕ → Bool
deletes_word vs k = eqb (value_of vs 128) 1 && eqb k (value_of vs 129)

-- an edit key, by the lowest parameter that names it
unfoldable pub edit_kind : Values → ℕ → Kind
edit_kind vs k =
    if eqb k (value_of vs 16) then DeleteCharacter
    else if eqb k (value_of vs 17) then DeleteLine
    else if eqb k (value_of vs 18) then DisplayLine
    else if deletes_word vs k then DeleteWord
    else plain_kind vs k

-- There are edit keys while 15 is 1; the value 0 names none.
abbrev pub editing : Values → ℕ → Bool
editing vs k = eqb (value_of vs 15) 1 && not (eqb k 0)

unfoldable pub kind_of : Values → ℕ → Kind
kind_of vs k = if editing vs k then edit_kind vs k else plain_kind vs k

-- ---- what it does

-- Refusal 10: neither an edit nor a forwarding key, and the line is full.
abbrev pub is_plain : Kind → Bool
is_plain DeleteCharacter = false
is_plain DeleteLine = false
is_plain DisplayLine = false
is_plain DeleteWord = false
is_plain Forward = false
is_plain Plain = true

unfoldable pub overfills : Values → List ℕ → ℕ → Bool
overfills vs text k = is_plain (kind_of vs k) && full text

-- the line after a key of this kind
unfoldable pub line_by : Kind → List ℕ → ℕ → List ℕ
line_by DeleteCharacter text k = without_last text
line_by DeleteLine text k = []
line_by DisplayLine text k = text
line_by DeleteWord text k = without_word text
line_by Forward text k = []
line_by Plain text k = pushed text k

unfoldable pub line_after : Values → List ℕ → ℕ → List ℕ
line_after vs text k = line_by (kind_of vs k) text k

-- "Parameter 13": a character as it is sent, CR as CR LF or as CR NUL
unfoldable pub sent_as : Bool → ℕ → List ℕ
sent_as lf b = if eqb b 13 then 13 ∷ (if lf then 10 else 0) ∷ [] else b ∷ []

unfoldable pub all_sent : Bool → List ℕ → List ℕ
all_sent lf [] = []
all_sent lf (b ∷ bs) = sent_as lf b ++ all_sent lf bs

-- what goes out at a key of this kind: at a forwarding key the line, then the key
unfoldable pub out_by : Kind → Bool → List ℕ → ℕ → List ℕ
out_by DeleteCharacter lf text k = []
out_by DeleteLine lf text k = []
out_by DisplayLine lf text k = []
out_by DeleteWord lf text k = []
out_by Forward lf text k = all_sent lf (text ++ (k ∷ []))
out_by Plain lf text k = []

-- bit 2 of parameter 13: CR LF
unfoldable pub out_of : Values → List ℕ → ℕ → List ℕ
out_of vs text k = out_by (kind_of vs k) (bit 2 (value_of vs 13)) text k

-- names all of the above: under `unfolding keys` a proof computes with them
unfoldable pub keys : ℕ
unfolding among control_set forward_set forwards edit_kind kind_of overfills line_by line_after sent_as all_sent out_by out_of
keys = 0

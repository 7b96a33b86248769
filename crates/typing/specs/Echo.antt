-- RFC 1053, parameters 2, 13, 19 and 20, and document 02, request (i): what is written as host text at a typed key.
use Rattle.std.specs.Prelude.{Bool, not, ◌&&◌, List, [], ◌∷◌, ℕ, zero, suc, ◌-◌, eqb, ltb, length, replicate, if◌then◌else◌}
use Rattle.words.specs.Words.{bit}
use Rattle.pad.specs.declared.parameter.Values.{Values}
use Rattle.typing.specs.declared.key.Kind.{Kind}
use Rattle.typing.specs.declared.key.Kind.TheVariants.{DeleteCharacter, DeleteLine, DisplayLine, DeleteWord, Forward, Plain}
use Rattle.typing.specs.declared.echo.Echo.{Echo}
use Rattle.typing.specs.declared.echo.Echo.TheVariants.{Silence, Repeated, Rubouts, NewLine, Struck, Waiting}
use Rattle.pad.specs.Parameters.{value_of}
use Rattle.pad.specs.Line.{full, word_start}
use Rattle.typing.specs.Keys.{among, kind_of}

-- ---- "Parameter 20": the echo mask

-- The set that a key is in, by its code: a control character, ..
unfoldable pub control_echo : ℕ → ℕ
control_echo k =
    if eqb k 13 then 1  -- CR
    else if eqb k 10 then 2  -- LF
    else if among (11 ∷ 9 ∷ 12 ∷ []) k then 4  -- VT, HT, FF
    else if among (7 ∷ 8 ∷ []) k then 8  -- BEL, BS
    else if among (27 ∷ 5 ∷ []) k then 16  -- ESC, ENQ
    else if among (6 ∷ 21 ∷ 2 ∷ 1 ∷ 4 ∷ 23 ∷ 3 ∷ []) k then 32  -- ACK, NAK, STX, SOH, EOT, ETB, ETX
    else 128  -- the others below 32

-- .. or DEL. Printing characters are in none.
unfoldable pub echo_set : ℕ → ℕ
echo_set k =
    if ltb k 32 then control_echo k
    else if eqb k 127 then 128
    else 0

-- the set of the editing characters: what is echoed when one is typed
abbrev pub editing_set : ℕ
editing_set = 64

-- echo is on, and the mask leaves this set
unfoldable pub echoed : Values → ℕ → Bool
echoed vs set = eqb (value_of vs 2) 1 && not (bit set (value_of vs 20))

-- ---- what is echoed

-- "Parameter 13", bit 4: a CR is echoed as CR LF
abbrev pub starts_line : Values → ℕ → Bool
starts_line vs k = eqb k 13 && bit 4 (value_of vs 13)

-- a key that is no edit key
unfoldable pub key_echo : Values → ℕ → Echo
key_echo vs k =
    if not (echoed vs (echo_set k)) then Silence
    else if starts_line vs k then NewLine
    else Repeated k 1

-- one that is refused is not echoed
unfoldable pub plain_echo : Values → List ℕ → ℕ → Echo
plain_echo vs text k = if full text then Silence else key_echo vs k

-- "Parameter 19": the signal for each of n characters erased ..
unfoldable pub character_signal : Values → ℕ → Echo
character_signal vs n =
    if not (echoed vs editing_set) then Silence
    else if eqb (value_of vs 19) 0 then Silence
    else if eqb (value_of vs 19) 1 then Repeated 92 n
    else if eqb (value_of vs 19) 2 then Rubouts n
    else Repeated (value_of vs 19) n

-- .. and for a line of n characters
unfoldable pub line_signal : Values → ℕ → Echo
line_signal vs n =
    if not (echoed vs editing_set) then Silence
    else if eqb (value_of vs 19) 0 then Silence
    else if eqb (value_of vs 19) 2 then Rubouts n
    else Struck

-- Deleting a character signals once, on an empty line too. Display is printing and not echo: it goes by no parameter.
unfoldable pub echo_by : Kind → Values → List ℕ → ℕ → Echo
echo_by DeleteCharacter vs text k = character_signal vs 1
echo_by DeleteLine vs text k = line_signal vs (length text)
echo_by DisplayLine vs text k = Waiting
echo_by DeleteWord vs text k = character_signal vs (length text - word_start text)
echo_by Forward vs text k = key_echo vs k
echo_by Plain vs text k = plain_echo vs text k

-- what is echoed at a key
abbrev pub echoing : Values → List ℕ → ℕ → Echo
echoing vs text k = echo_by (kind_of vs k) vs text k

-- ---- as bytes

-- BS SPACE BS, n times
unfoldable pub rubouts : ℕ → List ℕ
rubouts zero = []
rubouts (suc n) = 8 ∷ 32 ∷ 8 ∷ rubouts n

-- CR LF; XXX CR LF where a line is struck out; the line's characters
unfoldable pub bytes_of : Echo → List ℕ → List ℕ
bytes_of Silence text = []
bytes_of (Repeated b n) text = replicate n b
bytes_of (Rubouts n) text = rubouts n
bytes_of NewLine text = 13 ∷ 10 ∷ []
bytes_of Struck text = 88 ∷ 88 ∷ 88 ∷ 13 ∷ 10 ∷ []
bytes_of Waiting text = text

-- what is written as host text at a key
unfoldable pub echo_of : Values → List ℕ → ℕ → List ℕ
echo_of vs text k = bytes_of (echoing vs text k) text

-- names all of the above: under `unfolding echoes` a proof computes with them
unfoldable pub echoes : ℕ
unfolding control_echo echo_set echoed key_echo plain_echo character_signal line_signal echo_by rubouts bytes_of echo_of
echoes = 0

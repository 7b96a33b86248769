-- Document 02, request (i), "edit line": typed text that waits. What it holds is a list of at most 128 characters.
use Rattle.std.specs.Prelude.{Bool, true, false, not, ◌&&◌, List, [], ◌∷◌, ◌++◌, ℕ, zero, suc, ◌-◌, eqb, leb, ltb, length, get_or, take, replicate, if◌then◌else◌}
use Rattle.pad.specs.declared.line.EditLine.{EditLine}

-- the line's stated capacity
abbrev pub capacity : ℕ
capacity = 128

-- the characters of a line
abbrev pub text_of : EditLine → List ℕ
text_of l = take l.len l.bytes

-- The line of these characters: zeros stand behind them, so a line that a key has left is known by its characters.
unfoldable pub line_of : List ℕ → EditLine
line_of text = record { bytes = text ++ replicate (capacity - length text) 0; len = length text }

-- Typed text is 0 to 127.
unfoldable pub typable : List ℕ → Bool
typable [] = true
typable (b ∷ bs) = ltb b 128 && typable bs

-- what refusal 4 asks of a line: its length and its characters; what stands past the length has no range
unfoldable pub line_ok : EditLine → Bool
line_ok l = leb l.len capacity && typable (text_of l)

abbrev pub full : List ℕ → Bool
full text = leb capacity (length text)

-- one character more, where there is room
unfoldable pub pushed : List ℕ → ℕ → List ℕ
pushed text b = if full text then text else text ++ (b ∷ [])

-- the last character goes, if any
abbrev pub without_last : List ℕ → List ℕ
without_last text = take (length text - 1) text

-- a space, or with `spaces` false a non-space
unfoldable pub goes : Bool → ℕ → Bool
goes spaces b = if spaces then eqb b 32 else not (eqb b 32)

-- how many of the first n characters are left when those at the end go
unfoldable pub trimmed : Bool → List ℕ → ℕ → ℕ
trimmed spaces text zero = 0
trimmed spaces text (suc n) = if goes spaces (get_or text n 0) then trimmed spaces text n else suc n

-- the last word: the spaces at the end, then the run of non-spaces before them
abbrev pub word_start : List ℕ → ℕ
word_start text = trimmed false text (trimmed true text (length text))

abbrev pub without_word : List ℕ → List ℕ
without_word text = take (word_start text) text

-- names all of the above: under `unfolding lines` a proof computes with them
unfoldable pub lines : ℕ
unfolding line_of typable line_ok pushed goes trimmed
lines = 0

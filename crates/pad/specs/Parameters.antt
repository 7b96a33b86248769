-- RFC 1053, section 6, and document 02, request (i): the parameters that are held, what each may be, where each starts.
use Rattle.std.specs.Prelude.{Bool, true, false, ◌&&◌, ◌||◌, List, [], ◌∷◌, map, ℕ, ◌+◌, ◌-◌, eqb, ltb, get_or, set, if◌then◌else◌}
use Rattle.words.specs.Words.{between}
use Rattle.pad.specs.declared.parameter.Values.{Values}

-- ---- the list

-- values from the one to the other, both included
pub record Range : Type 0 where
  pub from : ℕ
  pub last : ℕ

infix 8 ◌to◌
abbrev pub ◌to◌ : ℕ → ℕ → Range
a to b = record { from = a; last = b }

pub record Entry : Type 0 where
  pub number : ℕ
  pub values : List Range
  pub start : ℕ

abbrev pub entry : ℕ → List Range → ℕ → Entry
entry number values start = record { number = number; values = values; start = start }

-- Number, admissible values, start. Admissible is what a "Code" line of the parameter names, sums of such codes where they may be
-- added, and the start; of 4 document 02 admits 0 alone. The start is 0 where the RFC gives none.
unfoldable pub table : List Entry
table =
    entry 0 ((0 to 1) ∷ []) 0  -- the host is notified of local changes
    ∷ entry 1 ((0 to 1) ∷ (32 to 126) ∷ []) 0  -- escape character
    ∷ entry 2 ((0 to 1) ∷ []) 0  -- local echo
    ∷ entry 3 ((0 to 127) ∷ []) 0  -- forwarding characters
    ∷ entry 4 ((0 to 0) ∷ []) 0  -- idle time
    ∷ entry 5 ((0 to 1) ∷ []) 0  -- flow control, user to host
    ∷ entry 6 ((0 to 0) ∷ []) 0  -- of no use here
    ∷ entry 7 ((0 to 31) ∷ []) 0  -- break
    ∷ entry 8 ((0 to 1) ∷ []) 0  -- output discarded
    ∷ entry 9 ((0 to 7) ∷ []) 0  -- padding after CR
    ∷ entry 10 ((0 to 255) ∷ []) 0  -- line folding
    ∷ entry 11 ((0 to 18) ∷ []) 0  -- bit rate
    ∷ entry 12 ((0 to 1) ∷ []) 0  -- flow control, host to user
    ∷ entry 13 ((0 to 7) ∷ []) 0  -- line feed insertion
    ∷ entry 14 ((0 to 7) ∷ []) 0  -- padding after LF
    ∷ entry 15 ((0 to 1) ∷ []) 0  -- local editing
    ∷ entry 16 ((0 to 127) ∷ []) 0  -- character-delete character
    ∷ entry 17 ((0 to 127) ∷ []) 0  -- line-delete character
    ∷ entry 18 ((0 to 127) ∷ []) 0  -- line-display character
    ∷ entry 19 ((0 to 2) ∷ (8 to 8) ∷ (32 to 126) ∷ []) 0  -- editing service signals
    ∷ entry 20 ((0 to 255) ∷ []) 0  -- echo mask
    ∷ entry 21 ((0 to 3) ∷ []) 0  -- parity
    ∷ entry 22 ((0 to 255) ∷ []) 0  -- page wait
    ∷ entry 128 ((0 to 1) ∷ (255 to 255) ∷ []) 0  -- extension set
    ∷ entry 129 ((0 to 127) ∷ []) 0  -- word-delete character
    ∷ entry 130 ((0 to 127) ∷ []) 19  -- flow control OFF character
    ∷ entry 131 ((0 to 127) ∷ []) 17  -- flow control ON character
    ∷ entry 132 ((0 to 1) ∷ []) 0  -- flow control convention
    ∷ []

unfoldable pub admits : List Range → ℕ → Bool
admits [] v = false
admits (r ∷ rs) v = between r.from r.last v || admits rs v

unfoldable pub admits_in : List Entry → ℕ → ℕ → Bool
admits_in [] p v = false
admits_in (e ∷ es) p v = if eqb p e.number then admits e.values v else admits_in es p v

-- may this parameter have this value
abbrev pub admissible : ℕ → ℕ → Bool
admissible p v = admits_in table p v

-- ---- the values

-- Where a parameter's value stands, in the list's order. 28, past the last, stands for a parameter that is never held.
abbrev pub slot_of : ℕ → ℕ
slot_of p = if ltb p 23 then p else if between 128 132 p then p - 105 else 28

-- the parameter whose value stands there
abbrev pub number_of : ℕ → ℕ
number_of slot = if ltb slot 23 then slot else slot + 105

-- a parameter's value
abbrev pub value_of : Values → ℕ → ℕ
value_of vs p = get_or vs.held (slot_of p) 0

-- at open
unfoldable pub start_values : Values
start_values = record { held = map (λ (e : Entry). e.start) table }

-- Which parameters are known now: 0 to 22, 128, and 129 to 132 under extension set 1.
unfoldable pub known : Values → ℕ → Bool
known vs p = ltb p 23 || (eqb p 128 || (between 129 132 p && eqb (value_of vs 128) 1))

-- how many
abbrev pub known_count : Values → ℕ
known_count vs = if eqb (value_of vs 128) 1 then 28 else 24

-- A pair acts where the parameter is known and the value is admissible; any other changes nothing.
abbrev pub acts : Values → ℕ → ℕ → Bool
acts vs p v = known vs p && admissible p v

unfoldable pub with_pair : Values → ℕ → ℕ → Values
with_pair vs p v = record { held = if acts vs p v then set vs.held (slot_of p) v else vs.held }

-- each value in its entry's ranges, in the list's order
unfoldable pub each_in : List Entry → List ℕ → Bool
each_in [] vs = true
each_in (e ∷ es) [] = admits e.values 0 && each_in es []
each_in (e ∷ es) (v ∷ vs) = admits e.values v && each_in es vs

abbrev pub all_admissible : Values → Bool
all_admissible vs = each_in table vs.held

-- names all of the above: under `unfolding parameters` a proof computes with them
unfoldable pub parameters : ℕ
unfolding table admits admits_in start_values known with_pair each_in
parameters = 0

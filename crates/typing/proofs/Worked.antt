-- Typing in bytes, computed from the definitions: one list of titled cases, each with what is found and what is to be found.
use Rattle.std.proofs.Common.{◌≡◌, false, List, [], ◌∷◌, ◌++◌, map, ℕ, replicate, if◌then◌else◌}
use Prim.Native.Char.{code}
use Prim.Native.String.{String}
use Prim.Native.String as string
use Rattle.words.specs.Words.{bit}
use Rattle.pad.specs.declared.parameter.Values.{Values}
use Rattle.pad.specs.Parameters.{start_values, with_pair, parameters}
use Rattle.pad.specs.Line.{lines}
use Rattle.pad.specs.Message.{message_of, messages}
use Rattle.pad.proofs.Cases.{Case, case, Pass, each_equal}
use Rattle.typing.specs.Keys.{overfills, line_after, all_sent, out_of, keys}
use Rattle.typing.specs.Echo.{echo_of, echoes}

-- ---- keys, one after the other, from a line: the line after them, what went out, what was echoed

abbrev line : Values → List ℕ → List ℕ → List ℕ
line vs text [] = text
line vs text (k ∷ ks) = line vs (line_after vs text k) ks

abbrev out : Values → List ℕ → List ℕ → List ℕ
out vs text [] = []
out vs text (k ∷ ks) = out_of vs text k ++ out vs (line_after vs text k) ks

abbrev echo : Values → List ℕ → List ℕ → List ℕ
echo vs text [] = []
echo vs text (k ∷ ks) = echo_of vs text k ++ echo vs (line_after vs text k) ks

-- the refusal of a key, if any
abbrev refusal : Values → List ℕ → ℕ → List ℕ
refusal vs text k = if overfills vs text k then 10 ∷ [] else []

-- ---- values

-- those that one SET of these pairs leaves from the start
abbrev after : List ℕ → Values
after pairs = (message_of start_values (0 ∷ pairs)).values

-- echo, forwarding at CR, editing with BS, signals for a display
abbrev display : Values
display = after (2 ∷ 1 ∷ 3 ∷ 2 ∷ 15 ∷ 1 ∷ 16 ∷ 8 ∷ 19 ∷ 2 ∷ [])

-- the same with signals for a printer, line delete 21, line display 18
abbrev printer : Values
printer = after (2 ∷ 1 ∷ 3 ∷ 2 ∷ 15 ∷ 1 ∷ 16 ∷ 8 ∷ 17 ∷ 21 ∷ 18 ∷ 18 ∷ 19 ∷ 1 ∷ [])

-- editing with DEL, which is a forwarding character too
abbrev deleting : Values
deleting = after (3 ∷ 8 ∷ 15 ∷ 1 ∷ 16 ∷ 127 ∷ [])

-- word delete 23, signals for a display
abbrev wording : Values
wording = after (2 ∷ 1 ∷ 15 ∷ 1 ∷ 19 ∷ 2 ∷ 128 ∷ 1 ∷ 129 ∷ 23 ∷ [])

-- ---- the cases

unfoldable pub characters : String → List ℕ
characters string.[] = []
characters (string.◌∷◌ c s) = code c ∷ characters s

unfoldable pub cases : List Case
cases =
    case "a display: echo" (echo display [] (97 ∷ 98 ∷ 8 ∷ 99 ∷ 13 ∷ [])) (97 ∷ 98 ∷ 8 ∷ 32 ∷ 8 ∷ 99 ∷ 13 ∷ [])
    ∷ case "a display: out" (out display [] (97 ∷ 98 ∷ 8 ∷ 99 ∷ 13 ∷ [])) (97 ∷ 99 ∷ 13 ∷ 0 ∷ [])
    ∷ case "LF on echo" (echo (with_pair display 13 6) [] (13 ∷ [])) (13 ∷ 10 ∷ [])
    ∷ case "LF on input" (out (with_pair display 13 6) [] (97 ∷ 98 ∷ 8 ∷ 99 ∷ 13 ∷ [])) (97 ∷ 99 ∷ 13 ∷ 10 ∷ [])
    ∷ case "a printer: echo" (echo printer [] (97 ∷ 98 ∷ 8 ∷ [])) (characters "ab\\")
    ∷ case "a printer: line" (line printer [] (97 ∷ 98 ∷ 8 ∷ [])) (characters "a")
    ∷ case "a printer: line display, line delete" (echo printer (characters "a") (18 ∷ 21 ∷ []))
    (97 ∷ 88 ∷ 88 ∷ 88 ∷ 13 ∷ 10 ∷ [])
    ∷ case "line display without echo" (echo (with_pair printer 2 0) (characters "a") (18 ∷ [])) (characters "a")
    ∷ case "line delete" (line printer (characters "a") (18 ∷ 21 ∷ [])) []
    ∷ case "character delete on an empty line" (echo printer [] (8 ∷ [])) (92 ∷ [])
    ∷ case "a full line refuses a key" (refusal start_values (replicate 128 13) 13) (10 ∷ [])
    ∷ case "a full line is not sent by itself" (out start_values (replicate 127 65) (65 ∷ 65 ∷ [])) []
    ∷ case "a full line stays" (line start_values (replicate 128 65) (65 ∷ [])) (replicate 128 65)
    ∷ case "a line takes its 128th character" (line start_values (replicate 127 65) (65 ∷ [])) (replicate 128 65)
    ∷ case "a forwarding key on a full line" (refusal (after (3 ∷ 2 ∷ [])) (replicate 128 13) 13) []
    ∷ case "a full line of CR goes out" (out (after (3 ∷ 2 ∷ [])) (replicate 128 13) (13 ∷ [])) (all_sent false (replicate 129 13))
    ∷ case "an edit key on a full line" (refusal deleting (replicate 128 65) 127) []
    ∷ case "one character less, one more" (line deleting (replicate 128 65) (127 ∷ 65 ∷ 65 ∷ [])) (replicate 128 65)
    ∷ case "letters forward" (out (after (3 ∷ 1 ∷ [])) [] (characters " -a")) (characters " -a")
    ∷ case "digits forward" (out (after (3 ∷ 1 ∷ [])) [] (characters "9")) (characters "9")
    ∷ case "DEL forwards" (out (after (3 ∷ 8 ∷ [])) [] (97 ∷ 98 ∷ 127 ∷ [])) (97 ∷ 98 ∷ 127 ∷ [])
    ∷ case "DEL deletes, and does not forward: out" (out deleting [] (97 ∷ 98 ∷ 127 ∷ [])) []
    ∷ case "DEL deletes, and does not forward: line" (line deleting [] (97 ∷ 98 ∷ 127 ∷ [])) (characters "a")
    ∷ case "word delete, with the spaces behind the word" (line wording (characters "a bc  ") (23 ∷ [])) (characters "a ")
    ∷ case "word delete: echo" (echo wording (characters "a b ") (23 ∷ [])) (8 ∷ 32 ∷ 8 ∷ 8 ∷ 32 ∷ 8 ∷ [])
    ∷ case "key 0 is no edit key" (line wording (characters "a") (0 ∷ [])) (97 ∷ 0 ∷ [])
    ∷ []

pass : Pass cases
unfolding bit parameters lines messages keys echoes characters cases
pass = tt

pub worked : map (λ (c : Case). c.found) cases ≡ map (λ (c : Case). c.expected) cases
worked = each_equal cases pass

-- Laws of the table of codes: which command a code means, and which code a command has.
use Rattle.std.proofs.Common.{◌≡◌, refl, Bool, true, false, ◌&&◌, List, [], ◌∷◌, ℕ, zero, suc, ◌+◌, ◌-◌, ◌≤◌, ◌<◌, arith, eqb-true, leb-true, lt-ltb, le-ltb, leb, eqb, get_or}
use Rattle.std.specs.Prelude.{None}
use borrow.Author.Tests.{eqb-false, not-true}
use Rattle.words.specs.Words.{between}
use Rattle.words.proofs.Laws.{true_or_false, less_or_not, not_both, and_left, and_right, in_between, above_between}
use Rattle.rules.specs.declared.Edition.{Edition}
use Rattle.rules.specs.declared.Edition.TheVariants.{June, September}
use Rattle.rules.specs.Edition.{code_for, meant_by, holds}
use Rattle.rules.specs.Command.{Row, rows, row_in, row_of, meaning}
use Rattle.command.specs.declared.code.Entry.{Entry}
use Rattle.command.specs.declared.sent.Sent.{Sent}
use Rattle.command.specs.declared.sent.Sent.TheVariants.{CursorPosition, DataTransmit, SuppressProtection, FieldSeparator, FunctionKey, Error}
use Rattle.command.specs.Sent.{number_of}
use Rattle.command.specs.Inner.Codes.{entry_of, entries_from, entries, array_of}

-- ---- reading

entry_from : (e : Edition) (i n k : ℕ) → k < n → get_or (entries_from e i n) k (record { 0 = 0 }) ≡ entry_of e (i + k)
unfolding entries_from
entry_from e i zero k h = absurd (omega arith)
entry_from e i (suc n) zero h = let here : i + 0 ≡ i = omega arith in rw here
entry_from e i (suc n) (suc k) h =
    let there : i + suc k ≡ suc i + k = omega arith in rw there (entry_from e (suc i) n k (omega arith))

-- the entry at a place
entry_at : (e : Edition) (code : ℕ) → code < 42 → get_or (entries e) code (record { 0 = 0 }) ≡ entry_of e code
entry_at e code h = let here : 0 + code ≡ code = omega arith in rw here at (entry_from e 0 42 code h)

-- in the array of its edition
pub array_below : (e : Edition) → array_of e < 2
array_below June = omega arith
array_below September = omega arith

pub table_at : (e : Edition) (code : ℕ) (others : List Entry) → code < 42
    → get_or (get_or (entries June ∷ entries September ∷ []) (array_of e) others) code (record { 0 = 0 }) ≡ entry_of e code
table_at June code others h = entry_at June code h
table_at September code others h = entry_at September code h

-- a command that is none of 1 to 41 has no row
abbrev in_range : List Row → Bool
in_range [] = true
in_range (r ∷ rs) = between 1 41 r.code && in_range rs

no_row : (rs : List Row) → in_range rs ≡ true → (command : ℕ) → between 1 41 command ≡ false → row_in rs command ≡ None
unfolding row_in
no_row [] all command out = refl
no_row (r ∷ rs) all command out =
    true_or_false (eqb command r.code)
    (λ e. not_both (between 1 41 r.code) (and_left _ _ all) (rw (eqb-true command r.code e) at out))
    (λ e. rw e (no_row rs (and_right (between 1 41 r.code) _ all) command out))

outside : (command : ℕ) → between 1 41 command ≡ false → row_in rows command ≡ None
unfolding rows
outside = no_row rows refl

-- what the list says of an entry's command is what it says of the code
pub entry_means : (e : Edition) (code : ℕ) → meaning (row_in rows (entry_of e code).0) ≡ meaning (row_of e code)
unfolding entry_of
entry_means e code =
    true_or_false (between 1 41 (meant_by e code)) (λ q. rw q) (λ q. rw (q, outside (meant_by e code) q, outside 0 refl))

-- past the table no code means anything
pub past_table : (e : Edition) (code : ℕ) → 42 ≤ code → None ≡ meaning (row_of e code)
unfolding meant_by meaning
past_table September code h = rw (outside code (above_between 1 41 code (omega arith)))
past_table June code h = rw (le-ltb code 27 (omega arith), outside (code + 1) (above_between 1 41 (code + 1) (omega arith)))

-- ---- writing

-- a command that an edition has is one of 1 to 41
in_range_lem : (command : ℕ) → between 1 41 command ≡ true → (1 ≤ command) × (command ≤ 41)
in_range_lem command h = (leb-true 1 command (and_left _ _ h), leb-true command 41 (and_right (leb 1 command) _ h))

pub in_table : (e : Edition) (command : ℕ) → holds e command ≡ true → (1 ≤ command) × (command ≤ 41)
unfolding holds
in_table September command h = in_range_lem command h
in_table June command h = in_range_lem command (and_left (between 1 41 command) _ h)

pub below_42 : (e : Edition) (command : ℕ) → holds e command ≡ true → command < 42
below_42 e command h = omega (arith, in_table e command h)

-- its own number means it, and then that is its code
own_number : (e : Edition) (command : ℕ) → holds e command ≡ true → meant_by e command ≡ command → (entry_of e command).0 ≡ command
unfolding entry_of
own_number e command h q = let r = in_table e command h in rw (q, in_between 1 41 command r.0 r.1)

pub code_here : (e : Edition) (command : ℕ) → holds e command ≡ true → (entry_of e command).0 ≡ command → command ≡ code_for e command
unfolding entry_of code_for meant_by
code_here September command h q = refl
code_here June command h q =
    less_or_not 27 command
    (λ l. true_or_false (between 1 41 (command + 1))
    (λ t. let s : command + 1 ≡ command = rw (le-ltb command 27 (omega arith), t) at q in absurd (omega arith))
    (λ t. let s : 0 ≡ command = rw (le-ltb command 27 (omega arith), t) at q in absurd (omega (arith, (in_table June command h).0))))
    (λ l. rw (le-ltb 27 command l))

-- or the one below it does
pub code_below : (e : Edition) (command : ℕ) → holds e command ≡ true → ((entry_of e command).0 ≡ command → ⊥) → command - 1 ≡ code_for e command
unfolding code_for meant_by holds
code_below September command h n = absurd (n (own_number September command h refl))
code_below June command h n =
    less_or_not command 27 (λ l. absurd (n (own_number June command h (rw (lt-ltb command 27 l)))))
    (λ l. let other = eqb-false command 27 (not-true _ (and_right (between 1 41 command) _ h)) in rw (lt-ltb 27 command (omega (arith, other))))

-- what June has, either edition has
pub both_hold : (e : Edition) (command : ℕ) → holds June command ≡ true → holds e command ≡ true
unfolding holds
both_hold June command h = h
both_hold September command h = and_left (between 1 41 command) _ h

-- each edition has what is sent
june_sends : (s : Sent) → holds June (number_of s) ≡ true
unfolding holds
june_sends CursorPosition = refl
june_sends DataTransmit = refl
june_sends SuppressProtection = refl
june_sends FieldSeparator = refl
june_sends FunctionKey = refl
june_sends Error = refl

pub sent_held : (e : Edition) (s : Sent) → holds e (number_of s) ≡ true
sent_held e s = both_hold e (number_of s) (june_sends s)

-- Document 02, request (vi): in either edition code to meaning and meaning to code undo each other, and no code is IAC.
use Rattle.std.proofs.Common.{◌≡◌, refl, true, false, ℕ, ◌+◌, ◌-◌, ◌<◌, arith, ltb-true, lt-ltb, le-ltb, ltb-false, eq-eqb, ne_eqb, ltb, eqb}
use borrow.Author.Tests.{eqb-false, not-true}
use Rattle.words.specs.Words.{between}
use Rattle.words.proofs.Laws.{either, true_or_false, less_or_not, and_right, in_between, below_between, above_between}
use Rattle.rules.specs.declared.Edition.{Edition}
use Rattle.rules.specs.declared.Edition.TheVariants.{June, September}
use Rattle.rules.specs.Edition.{is_edition, code_for, meant_by, holds, EditionsOneToOne}

-- the numbers of the two RFCs, and no other
pub two_editions : (named : ℕ) → is_edition named ≡ between 731 732 named
unfolding is_edition
two_editions named =
    less_or_not named 731
    (λ l. rw (ne_eqb named 731 (λ q. omega arith), ne_eqb named 732 (λ q. omega arith), below_between 731 732 named l))
    (λ l. less_or_not 732 named
    (λ h. rw (ne_eqb named 731 (λ q. omega arith), ne_eqb named 732 (λ q. omega arith), above_between 731 732 named h))
    (λ h. rw (in_between 731 732 named l h) (true_or_false (eqb named 731) (λ e. rw e)
    (λ e. rw (e, eq-eqb named 732 (omega (arith, eqb-false named 731 e)))))))

-- a code stands for one command, whatever it is
pub code_back : (e : Edition) (code : ℕ) → code_for e (meant_by e code) ≡ code
unfolding code_for meant_by
code_back September code = refl
code_back June code =
    true_or_false (ltb code 27) (λ l. rw (l, le-ltb 27 code (omega (arith, ltb-true code 27 l))))
    (λ l. rw (l, lt-ltb 27 (code + 1) (omega (arith, ltb-false code 27 l))) (omega arith))

-- and a command that the edition has for one code
meaning_back : (e : Edition) (command : ℕ) → holds e command ≡ true → meant_by e (code_for e command) ≡ command
unfolding code_for meant_by holds
meaning_back September command h = refl
meaning_back June command h =
    let other = eqb-false command 27 (not-true _ (and_right (between 1 41 command) _ h)) in
    true_or_false (ltb 27 command)
    (λ l. rw (l, le-ltb (command - 1) 27 (omega (arith, ltb-true 27 command l))) (omega (arith, ltb-true 27 command l)))
    (λ l. rw (l, lt-ltb command 27 (omega (arith, ltb-false 27 command l, other))))

pub one_to_one : EditionsOneToOne
one_to_one e = record { meaning_back = meaning_back e; code_back = λ code h. code_back e code }

-- no code is doubled
pub not_iac : (e : Edition) (command : ℕ) → command < 255 → eqb (code_for e command) 255 ≡ false
unfolding code_for
not_iac September command h = ne_eqb command 255 (λ q. omega arith)
not_iac June command h =
    either (λ c. eqb c 255 ≡ false) (ltb 27 command) (λ l. ne_eqb (command - 1) 255 (λ q. omega (arith, ltb-true 27 command l))) (λ l. ne_eqb command 255 (λ q. omega arith))

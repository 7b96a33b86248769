-- A call that is taken has passed every test.
use Rattle.std.proofs.Common.{◌≡◌, true, false, refl, List, [], ◌∷◌}
use Rattle.words.proofs.Laws.{either, not_both}
use Rattle.rules.specs.Refusal.{Test, is_taken, verdict}
use Rattle.rules.proofs.All.{All}
-- the sentences of document 01 are checked first, so that a wrong rule is refused there
use Rattle.rules.proofs.Causes.{nothing_else}

-- the first test, and the others
pub asked : (t : Test) (ts : List Test) → is_taken (verdict (t ∷ ts)) ≡ true → (t.passes ≡ true) × (is_taken (verdict ts) ≡ true)
unfolding verdict
asked t ts =
    either (λ v. is_taken v ≡ true → (t.passes ≡ true) × (is_taken (verdict ts) ≡ true)) t.passes (λ p e. (p, e))
    (λ p e. not_both false e refl)

pub all_pass : (ts : List Test) → is_taken (verdict ts) ≡ true → All (λ t. t.passes ≡ true) ts
all_pass [] h = tt
all_pass (t ∷ ts) h = let first = asked t ts h in (first.0, all_pass ts first.1)

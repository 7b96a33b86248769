-- An option by its number.
use Rattle.std.proofs.Common.{◌≡◌, ℕ, eqb, eqb-true, Option, Some, None}
use Rattle.words.proofs.Laws.{either}
use Rattle.rules.specs.declared.TelnetOption.{TelnetOption}
use Rattle.rules.specs.declared.TelnetOption.TheVariants.{Det, X3}
use Rattle.rules.specs.Telnet.{option_of}
-- the worked cases and the sentences over all values are checked first, so that a wrong rule is refused there
use Rattle.rules.proofs.Every.{every_option}

-- a fact of every option, from its three cases
pub by_option {ℓ} : (P : Option TelnetOption → Type ℓ) (n : ℕ) → (n ≡ 20 → P (Some Det)) → (n ≡ 30 → P (Some X3)) → P None → P (option_of n)
unfolding option_of
by_option P n a b c =
    either P (eqb n 20) (λ e. a (eqb-true n 20 e)) (λ e. either P (eqb n 30) (λ f. b (eqb-true n 30 f)) (λ f. c))

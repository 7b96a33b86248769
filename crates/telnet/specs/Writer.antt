-- What a sender writes: data and payloads with every 255 doubled, subnegotiations, negotiation commands.
use Rattle.std.specs.Prelude.{ℕ, List, [], ◌∷◌, ◌++◌, eqb, if◌then◌else◌}
use Rattle.telnet.specs.declared.Verb.{Verb}
use Rattle.telnet.specs.Reader.{iac, sb, se, verb_code}

-- 255 is written twice, any other byte once
unfoldable pub doubled : List ℕ → List ℕ
doubled [] = []
doubled (b ∷ bs) = (if eqb b iac then iac ∷ iac ∷ [] else b ∷ []) ++ doubled bs

-- IAC SB option payload IAC SE
unfoldable pub subnegotiation : ℕ → List ℕ → List ℕ
subnegotiation o payload = iac ∷ sb ∷ (doubled (o ∷ payload) ++ (iac ∷ se ∷ []))

-- IAC verb option; the option is never doubled
unfoldable pub negotiation : Verb → ℕ → List ℕ
negotiation v o = iac ∷ verb_code v ∷ o ∷ []

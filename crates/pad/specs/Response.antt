-- RFC 1053, section 5, RESPONSE-IS: the message before any 255 is doubled.
use Rattle.std.specs.Prelude.{List, [], ◌∷◌, ℕ, zero, suc, get_or}
use Rattle.pad.specs.declared.parameter.Values.{Values}
use Rattle.pad.specs.Parameters.{number_of, known_count}

-- number and value of the parameters at n slots, from this one on
unfoldable pub pairs_from : Values → ℕ → ℕ → List ℕ
pairs_from vs slot zero = []
pairs_from vs slot (suc n) = number_of slot ∷ get_or vs.held slot 0 ∷ pairs_from vs (suc slot) n

-- the code 3, then each parameter that is known, once and in rising order
unfoldable pub response_of : Values → List ℕ
response_of vs = 3 ∷ pairs_from vs 0 (known_count vs)

-- names all of the above: under `unfolding responses` a proof computes with them
unfoldable pub responses : ℕ
unfolding pairs_from response_of
responses = 0

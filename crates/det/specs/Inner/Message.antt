-- A message of option 30, in the input.
use Rattle.std.specs.Prelude.{Bool, false}
use Rattle.telnet.specs.declared.Phase.{Phase}
use Rattle.telnet.specs.declared.Phase.TheVariants.{Rest, Iac, Negotiating, Opening, OpeningIac, Inside, InsideIac}
use Rattle.rules.specs.Pad.{is_x3}

-- the reader stands in one
unfoldable pub in_message : Phase → Bool
in_message Rest = false
in_message Iac = false
in_message (Negotiating verb) = false
in_message Opening = false
in_message OpeningIac = false
in_message (Inside option) = is_x3 option
in_message (InsideIac option) = is_x3 option

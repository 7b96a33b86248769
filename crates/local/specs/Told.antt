-- Document 02, request (i): what the reader told, and the PAD.
use Rattle.std.specs.Prelude.{Bool, false, not}
use Rattle.telnet.specs.declared.Event.{Event}
use Rattle.telnet.specs.declared.Event.TheVariants.{Nothing, Data, Negotiation, Begin, Sub, End, EndBare, Lost}
use Rattle.rules.specs.Pad.{is_x3}

-- the end of a subnegotiation, not one of option 30
unfoldable pub ends_other : Event → Bool
ends_other Nothing = false
ends_other (Data b) = false
ends_other (Negotiation verb option) = false
ends_other (Begin option) = false
ends_other (Sub option b) = false
ends_other (End option) = not (is_x3 option)
ends_other EndBare = false
ends_other Lost = false

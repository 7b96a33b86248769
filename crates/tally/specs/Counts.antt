-- What a Telnet stream holds, counted: what each event that it tells adds.
use Rattle.std.specs.Prelude.{ℕ, ◌+◌, List, [], ◌∷◌}
use Rattle.telnet.specs.declared.Event.{Event}
use Rattle.telnet.specs.declared.Event.TheVariants.{Nothing, Data, Negotiation, Begin, Sub, End, EndBare, Lost}
use Rattle.tally.specs.declared.Tally.{Tally}

-- a tally by its counts: data bytes, negotiations, bytes of payload, subnegotiations ended
abbrev pub counts : ℕ → ℕ → ℕ → ℕ → Tally
counts d n p e = record { data_bytes = d; negotiations = n; payload = p; ended = e }

abbrev pub none : Tally
none = counts 0 0 0 0

-- What one event adds. The option byte is no payload; a subnegotiation ends with or without one, and not where it is thrown away.
unfoldable pub tallied : Event → Tally
tallied Nothing = none
tallied (Data b) = counts 1 0 0 0
tallied (Negotiation v o) = counts 0 1 0 0
tallied (Begin o) = none
tallied (Sub o b) = counts 0 0 1 0
tallied (End o) = counts 0 0 0 1
tallied EndBare = counts 0 0 0 1
tallied Lost = none

-- two tallies together
unfoldable pub plus : Tally → Tally → Tally
plus s t =
    counts (s.data_bytes + t.data_bytes) (s.negotiations + t.negotiations) (s.payload + t.payload) (s.ended + t.ended)

-- what the events add together
unfoldable pub tally_of : List Event → Tally
tally_of [] = none
tally_of (e ∷ es) = plus (tallied e) (tally_of es)

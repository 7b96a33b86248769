-- What tally's own functions say of one another.
use Rattle.std.specs.Prelude.{ℕ, ◌+◌, Bool, true, false}
use Rattle.telnet.specs.declared.Phase.{Phase}
use Rattle.telnet.specs.declared.Phase.TheVariants.{Rest, Inside}
use Rattle.tally.specs.declared.Tally.{Tally}
use Rattle.tally.specs.Counts.{counts}

-- the four counts together
abbrev pub total : Tally → ℕ
total t = t.data_bytes + t.negotiations + t.payload + t.ended

-- a reader in this phase stands in a stretch
abbrev pub in_stretch : Phase → Bool
in_stretch Rest = true
in_stretch (Inside o) = true
in_stretch p = false

-- what so many bytes of a stretch add: payload in a subnegotiation, else data
abbrev pub stretched : Phase → ℕ → Tally
stretched (Inside o) n = counts 0 0 n 0
stretched p n = counts n 0 0 0

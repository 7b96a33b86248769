-- The bytes of a subnegotiation, held one after the other.
use Rattle.std.specs.Prelude.{List, [], ◌∷◌, ℕ}
use Rattle.rules.specs.declared.Held.{Held}
use Rattle.rules.specs.Telnet.{holding}

unfoldable pub holding_all : Held → List ℕ → Held
holding_all h [] = h
holding_all h (b ∷ bs) = holding_all (holding h b) bs

-- A list of bytes, read one after the other.
use Rattle.std.specs.Prelude.{ℕ, suc, ◌+◌, ◌-◌, Bool, not, ◌&&◌, List, [], ◌∷◌, ◌++◌, Option, None, Some}
use Rattle.std.specs.Prelude.{eqb, ltb, length, take, drop, get_or, if◌then◌else◌}
use Rattle.telnet.specs.declared.Phase.{Phase}
use Rattle.telnet.specs.declared.Phase.TheVariants.{Iac}
use Rattle.telnet.specs.declared.Event.{Event}
use Rattle.telnet.specs.declared.Event.TheVariants.{Nothing, Data, Negotiation, Begin, Sub, End, EndBare, Lost}
use Rattle.telnet.specs.declared.stretch.Stretch.{Stretch}
use Rattle.telnet.specs.declared.ahead.WholeSub.{WholeSub}
use Rattle.telnet.specs.Reader.{iac, sb, se, read_of}

-- where the reader stands after the bytes
unfoldable pub phase_after : Phase → List ℕ → Phase
phase_after p [] = p
phase_after p (b ∷ bs) = phase_after (read_of p b).phase bs

-- an event as a list: `Nothing` is none
abbrev pub as_list : Event → List Event
as_list Nothing = []
as_list (Data b) = Data b ∷ []
as_list (Negotiation v o) = Negotiation v o ∷ []
as_list (Begin o) = Begin o ∷ []
as_list (Sub o b) = Sub o b ∷ []
as_list (End o) = End o ∷ []
as_list EndBare = EndBare ∷ []
as_list Lost = Lost ∷ []

-- what the bytes tell, in order
unfoldable pub events_of : Phase → List ℕ → List Event
events_of p [] = []
events_of p (b ∷ bs) = as_list (read_of p b).event ++ events_of (read_of p b).phase bs

-- how many bytes stand before the first IAC; all, where there is none
unfoldable pub before_iac : List ℕ → ℕ
before_iac [] = 0
before_iac (b ∷ bs) = if eqb b iac then 0 else suc (before_iac bs)

-- where the first IAC from `from` on stands; none, the end; where `from` is past the end, `from`
unfoldable pub data_end : List ℕ → ℕ → ℕ
data_end bytes from = from + before_iac (drop from bytes)

-- the bytes from `from` up to `end`
abbrev pub part : ℕ → ℕ → List ℕ → List ℕ
part from end bytes = take (end - from) (drop from bytes)

-- The stretch of bytes without IAC from `from` on, for a reader in the phase p. It ends at the first IAC or with the bytes. If an
-- IAC stands there, reading goes on after it, in the phase that it leads to; else there, in the same phase.
unfoldable pub stretch_of : Phase → List ℕ → ℕ → Stretch
stretch_of p bytes from =
    let end = data_end bytes from in
    let more = ltb end (length bytes) in
    record {
      end = end;
      next = if more then end + 1 else end;
      phase = if more then (read_of p iac).phase else p;
    }

-- A whole subnegotiation stands from `from` on, after an IAC: SB, an option byte that is not IAC, and at the next IAC its end.
unfoldable pub whole_from : List ℕ → ℕ → Bool
whole_from bytes from =
    let end = data_end bytes (from + 2) in
    eqb (get_or bytes from 0) sb && (not (eqb (get_or bytes (from + 1) 0) iac)
    && (ltb (end + 1) (length bytes) && eqb (get_or bytes (end + 1) 0) se))

unfoldable pub sub_from : List ℕ → ℕ → Option WholeSub
sub_from bytes from =
    let end = data_end bytes (from + 2) in
    if whole_from bytes from
    then Some (record { option = get_or bytes (from + 1) 0; start = from + 2; end = end; next = end + 2 })
    else None

-- what is ahead of a reader in this phase: a whole subnegotiation is looked for after an IAC alone
unfoldable pub ahead_of : Phase → List ℕ → ℕ → Option WholeSub
ahead_of Iac bytes from = sub_from bytes from
ahead_of p bytes from = None

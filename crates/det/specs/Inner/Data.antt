-- Host data in the session, and what is done on an event that is no end of a message of option 30.
use Rattle.std.specs.Prelude.{Bool, not, ◌&&◌, ℕ, eqb, if◌then◌else◌}
use Rattle.telnet.specs.declared.Event.{Event}
use Rattle.telnet.specs.declared.Event.TheVariants.{Nothing, Data, Negotiation, Begin, Sub, End, EndBare, Lost}
use Rattle.rules.specs.declared.Held.{Held}
use Rattle.rules.specs.Session.{View, line_takes_keys}
use Rattle.rules.specs.Effect.{Effect, quiet}
use Rattle.rules.specs.Telnet.{negotiated, host_data}
use Rattle.decide.specs.Decision.{ended_det}

-- a byte of data: lf tells whether CR LF is printed as such, cr whether a CR came last before it
unfoldable pub data_effect : View → Bool → Bool → ℕ → Effect
data_effect v lf cr b = if (line_takes_keys v.frame && not lf) && (cr && eqb b 10) then quiet v else host_data v b

-- on an event other than data, with these bytes held
unfoldable pub told_effect : View → Held → Event → Effect
told_effect v h (Negotiation verb option) = negotiated v verb option
told_effect v h (End option) = ended_det v h option
told_effect v h Nothing = quiet v
told_effect v h (Data b) = quiet v
told_effect v h (Begin option) = quiet v
told_effect v h (Sub option b) = quiet v
told_effect v h EndBare = quiet v
told_effect v h Lost = quiet v

-- on any
unfoldable pub det_effect : View → Bool → Held → Bool → Event → Effect
det_effect v lf h cr (Data b) = data_effect v lf cr b
det_effect v lf h cr Nothing = told_effect v h Nothing
det_effect v lf h cr (Negotiation verb option) = told_effect v h (Negotiation verb option)
det_effect v lf h cr (Begin option) = told_effect v h (Begin option)
det_effect v lf h cr (Sub option b) = told_effect v h (Sub option b)
det_effect v lf h cr (End option) = told_effect v h (End option)
det_effect v lf h cr EndBare = told_effect v h EndBare
det_effect v lf h cr Lost = told_effect v h Lost

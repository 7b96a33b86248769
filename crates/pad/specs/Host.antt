-- RFC 1053, "Parameter 13": whether a host's CR LF is printed as CR LF or as CR.
use Rattle.std.specs.Prelude.{Bool}
use Rattle.words.specs.Words.{bit}
use Rattle.pad.specs.declared.parameter.Values.{Values}
use Rattle.pad.specs.Parameters.{value_of}

-- bit 1: CR LF is printed as CR LF
unfoldable pub prints_lf : Values → Bool
prints_lf vs = bit 1 (value_of vs 13)

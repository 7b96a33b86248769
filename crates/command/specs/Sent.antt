-- What the terminal sends, by document 01's codes.
use Rattle.std.specs.Prelude.{ℕ}
use Rattle.rules.specs.Number.{cursor_position, data_transmit, suppress_protection, field_separator, fn, error}
use Rattle.command.specs.declared.sent.Sent.{Sent}
use Rattle.command.specs.declared.sent.Sent.TheVariants.{CursorPosition, DataTransmit, SuppressProtection, FieldSeparator, FunctionKey, Error}

abbrev pub number_of : Sent → ℕ
number_of CursorPosition = cursor_position
number_of DataTransmit = data_transmit
number_of SuppressProtection = suppress_protection
number_of FieldSeparator = field_separator
number_of FunctionKey = fn
number_of Error = error

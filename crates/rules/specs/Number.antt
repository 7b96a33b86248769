-- The numbers of the protocol, by the names that the papers give them. Commands that the terminal receives stand in the list of
-- Command.antt, the Telnet bytes and verbs in telnet's Reader.antt.
use Rattle.std.specs.Prelude.{ℕ}
use Rattle.rules.specs.declared.Fault.{Fault}
use Rattle.rules.specs.declared.Fault.TheVariants.{
  NotAgreed,
  UnknownCode,
  OffScreen,
  TooManyParameters,
  TooFewParameters,
  BadValue,
  BadMap,
}

-- the options DET and X.3 PAD
abbrev pub det_option : ℕ
det_option = 20

abbrev pub x3_option : ℕ
x3_option = 30

-- ---- what the terminal sends, by document 01's codes; Edition.antt says how an edition writes them

-- the answer to READ CURSOR
abbrev pub cursor_position : ℕ
cursor_position = 18

-- the preface of each transmission
abbrev pub data_transmit : ℕ
data_transmit = 28

-- the answers to SUPPRESS PROTECTION
abbrev pub suppress_protection : ℕ
suppress_protection = 38

-- between two fields
abbrev pub field_separator : ℕ
field_separator = 39

-- a function key
abbrev pub fn : ℕ
fn = 40

abbrev pub error : ℕ
error = 41

-- ERROR's numbers
abbrev pub fault_number : Fault → ℕ
fault_number NotAgreed = 1
fault_number UnknownCode = 2
fault_number OffScreen = 3
fault_number TooManyParameters = 9
fault_number TooFewParameters = 10
fault_number BadValue = 11
fault_number BadMap = 12

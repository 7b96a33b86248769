-- RFC 1053, section 2, and document 02, request (i): a message of option 30, the bytes between the option byte and IAC SE.
use Rattle.std.specs.Prelude.{Bool, true, false, ◌&&◌, List, [], ◌∷◌, ℕ, eqb, leb, replicate, if◌then◌else◌}
use Rattle.pad.specs.declared.parameter.Values.{Values}
use Rattle.pad.specs.declared.message.Stage.{Stage}
use Rattle.pad.specs.declared.message.Stage.TheVariants.{Code, Parameter, Value}
use Rattle.pad.specs.declared.message.Message.{Message}
use Rattle.pad.specs.declared.message.MessageEnd.{MessageEnd}
use Rattle.pad.specs.Parameters.{with_pair}

-- ---- a message as a whole

-- every parameter has its value
unfoldable pub paired : List ℕ → Bool
paired [] = true
paired (p ∷ []) = false
paired (p ∷ v ∷ rest) = paired rest

-- the pairs act in order
unfoldable pub with_pairs : Values → List ℕ → Values
with_pairs vs [] = vs
with_pairs vs (p ∷ []) = vs
with_pairs vs (p ∷ v ∷ rest) = with_pairs (with_pair vs p v) rest

-- SET is 0, RESPONSE-SET 1
abbrev pub is_set : ℕ → Bool
is_set code = leb code 1

-- SEND is 4
abbrev pub is_send : ℕ → Bool
is_send code = eqb code 4

-- What a message does to the values, and whether RESPONSE-IS answers it. No code, an unknown code, or a parameter left without a
-- value: all of it is ignored.
unfoldable pub message_of : Values → List ℕ → MessageEnd
message_of vs [] = record { values = vs; asked = false }
message_of vs (code ∷ pairs) = record {
  values = record { held = if is_set code && paired pairs then (with_pairs vs pairs).held else vs.held };
  asked = is_send code && paired pairs;
}

-- ---- the same, byte by byte: pairs act on a copy of the values, which comes into force at the end, or never

-- outside a message: nothing is half read, and the copy is all zeros
unfoldable pub idle_message : Message
idle_message = record { stage = Code; copy = record { held = replicate 28 0 } }

-- after the option byte
unfoldable pub begun : Values → Message
begun vs = record { stage = Code; copy = vs }

unfoldable pub stage_after : Stage → ℕ → Stage
stage_after Code b = Parameter b
stage_after (Parameter code) b = Value code b
stage_after (Value code p) b = Parameter code

unfoldable pub copy_after : Stage → Values → ℕ → Values
copy_after Code copy b = copy
copy_after (Parameter code) copy b = copy
copy_after (Value code p) copy b = with_pair copy p b

unfoldable pub after_byte : Message → ℕ → Message
after_byte m b = record { stage = stage_after m.stage b; copy = copy_after m.stage m.copy b }

unfoldable pub after_bytes : Message → List ℕ → Message
after_bytes m [] = m
after_bytes m (b ∷ bs) = after_bytes (after_byte m b) bs

-- at the end: does the copy come into force, does RESPONSE-IS go out
abbrev pub commits : Stage → Bool
commits Code = false
commits (Parameter code) = is_set code
commits (Value code p) = false

abbrev pub answers : Stage → Bool
answers Code = false
answers (Parameter code) = is_send code
answers (Value code p) = false

unfoldable pub ended : Values → Message → MessageEnd
ended vs m = record {
  values = record { held = if commits m.stage then m.copy.held else vs.held };
  asked = answers m.stage;
}

-- names all of the above: under `unfolding messages` a proof computes with them
unfoldable pub messages : ℕ
unfolding paired with_pairs message_of idle_message begun stage_after copy_after after_byte after_bytes ended
messages = 0

-- One name for every definition: a proof under `unfolding computing` computes with them.
use Rattle.std.specs.Prelude.{ℕ}
use Rattle.telnet.specs.Reader.{reader}
use Rattle.telnet.specs.Writer.{doubled, subnegotiation, negotiation}
use Rattle.words.specs.Words.{bit, tabulate}
use Rattle.pad.specs.Parameters.{parameters}
use Rattle.pad.specs.Line.{lines}
use Rattle.pad.specs.Message.{messages}
use Rattle.pad.specs.Response.{responses}
use Rattle.typing.specs.Keys.{keys}
use Rattle.typing.specs.Echo.{echoes}
use Rattle.pad.specs.Host.{prints_lf}
use Rattle.screen.specs.Words.{first_of, last_of}
use Rattle.screen.specs.Attributes.{protected_at}
use Rattle.screen.specs.Fields.{starts_at, opens_at, field_start, field_end, span_end}
use Rattle.screen.specs.Scans.{next_open}
use Rattle.edit.specs.Edits.{deleted, inserted, shifted, on_part, erased, filled, some_marked}
use Rattle.screen.specs.Classes.{takes}
use Rattle.rules.specs.Session.{all_printable, all_marks, pad_ok, session_ok}
use Rattle.rules.specs.Facility.{weight, own_map, receiving, agreed}
use Rattle.rules.specs.Edition.{is_edition, edition_of, name_of, code_for, meant_by, holds}
use Rattle.rules.specs.Refusal.{verdict, open_tests, size_tests, state_tests}
use Rattle.rules.specs.Command.{rows, row_in, meaning, reaches, value_fault, fault_of}
use Rattle.rules.specs.Effect.{changed, changed_all, marks_after, spelled, spelled_all}
use Rattle.rules.specs.Cursor.{
  lines_down,
  skipped_to_char,
  next_cell,
  home_cell,
  back_tab_cell,
  first_field_cell,
  next_field_cell,
  previous_open_cell,
  destination,
}
use Rattle.rules.specs.Telnet.{
  holding,
  held_after,
  cr_after,
  option_of,
  is_on,
  accepts,
  turned,
  switched_on,
  switched_off,
  negotiated,
  host_character,
  host_characters,
  host_data,
  host_text,
}
use Rattle.rules.specs.Pad.{empties, pad_after, response, line_tests, pad_typed, typed_to, passes}
use Rattle.rules.specs.Subcommand.{field_texts, modified_texts, transmitted, erasure, suppressing, obeyed, judged, looked, subcommand}
use Rattle.rules.specs.Key.{key_of, needs_of, key_tests, pressed}
use Rattle.rules.specs.Operation.{happening, host_byte, running, unless, taken_of, host_bytes, one_key, opened}
use Rattle.rules.specs.Call.{called, answers_of, state_after, executed_by, executed_of}

unfoldable pub computing : ℕ
unfolding bit parameters lines messages responses keys echoes prints_lf reader doubled subnegotiation negotiation first_of last_of tabulate
    protected_at starts_at opens_at field_start field_end span_end
    next_open deleted inserted shifted on_part erased filled some_marked takes all_printable all_marks pad_ok session_ok weight own_map receiving
    agreed is_edition edition_of name_of code_for meant_by holds verdict open_tests size_tests state_tests rows row_in
    meaning reaches value_fault fault_of changed changed_all marks_after spelled spelled_all lines_down skipped_to_char
    next_cell home_cell back_tab_cell first_field_cell next_field_cell previous_open_cell destination
    holding held_after cr_after option_of is_on accepts turned switched_on switched_off negotiated host_character host_characters
    host_data host_text empties pad_after response line_tests pad_typed typed_to passes field_texts modified_texts
    transmitted erasure suppressing obeyed judged looked subcommand key_of needs_of key_tests pressed happening host_byte running unless
    taken_of host_bytes one_key opened called answers_of state_after executed_by executed_of
computing = 0

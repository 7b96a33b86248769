-- What refusal 4 asks of a PAD holds at open, and stays so; and how much goes out at a key.
use Rattle.std.proofs.Common.{◌≡◌, true, ℕ, ◌≤◌, ◌<◌, ltb-true, length}
use Rattle.words.proofs.Laws.{either, and_left, and_right, both}
use Rattle.telnet.specs.declared.Event.{Event}
use Rattle.telnet.specs.declared.Event.TheVariants.{Nothing, Data, Negotiation, Begin, Sub, End, EndBare, Lost}
use Rattle.pad.specs.declared.message.Message.{Message}
use Rattle.pad.specs.Parameters.{all_admissible}
use Rattle.pad.specs.Line.{text_of, line_ok}
use Rattle.pad.proofs.ParameterLaws.{start_admissible}
use Rattle.pad.proofs.LineLaws.{ok_length, empty_ok}
use Rattle.pad.proofs.MessageLaws.{idle_admissible, begun_admissible, byte_admissible, end_admissible}
use Rattle.typing.proofs.KeyLaws.{line_stays_ok, out_most}
use Rattle.rules.specs.declared.Frame.{Frame}
use Rattle.rules.specs.declared.Pad.{Pad}
use Rattle.rules.specs.Session.{State, fresh_pad, pad_ok, line_takes_keys}
use Rattle.rules.specs.Pad.{is_x3, counts, empties, pad_after, takes_key, pad_typed, sent_at}
use Rattle.rules.specs.Operation.{pad_pressed}
-- the sentences of the documents are checked first, so that a wrong rule is refused there
use Rattle.rules.proofs.Causes.{nothing_else}

-- the three parts
pub record SoundPad (p : Pad) : Type 0 where
  pub values : all_admissible p.values ≡ true
  pub copy : all_admissible p.message.copy ≡ true
  pub line : line_ok p.line ≡ true

pub pad_parts : (p : Pad) → pad_ok p ≡ true → SoundPad p
unfolding pad_ok
pad_parts p e =
    let rest = and_right (all_admissible p.values) _ e in
    record { values = and_left _ _ e; copy = and_left _ _ rest; line = and_right (all_admissible p.message.copy) _ rest }

pub pad_whole : {p : Pad} → SoundPad p → pad_ok p ≡ true
unfolding pad_ok
pad_whole k = both _ _ k.values (both _ _ k.copy k.line)

pub fresh_pad_lem : SoundPad fresh_pad
fresh_pad_lem = record { values = start_admissible; copy = idle_admissible; line = empty_ok }

module _ {p : Pad} (k : SoundPad p) where
  -- what the reader told
  pub pad_told : (f : Frame) (e : Event) → SoundPad (pad_after f p e)
  unfolding pad_after
  pad_told f Nothing = k
  pad_told f (Data b) = k
  pad_told f (Negotiation verb option) =
      record {
        values = k.values;
        copy = k.copy;
        line = either (λ l. line_ok l ≡ true) (empties f verb option) (λ q. empty_ok) (λ q. k.line);
      }
  pad_told f (Begin option) =
      record {
        values = k.values;
        copy = either (λ (m : Message). all_admissible m.copy ≡ true) (is_x3 option) (λ q. begun_admissible p.values k.values) (λ q. idle_admissible);
        line = k.line;
      }
  pad_told f (Sub option b) =
      record {
        values = k.values;
        copy = either (λ (m : Message). all_admissible m.copy ≡ true) (is_x3 option) (λ q. byte_admissible p.message b k.copy) (λ q. k.copy);
        line = k.line;
      }
  pad_told f (End option) =
      record {
        values = either (λ vs. all_admissible vs ≡ true) (counts f option) (λ q. end_admissible p.values p.message k.values k.copy) (λ q. k.values);
        copy = idle_admissible;
        line = k.line;
      }
  pad_told f EndBare = record { values = k.values; copy = idle_admissible; line = k.line }
  pad_told f Lost = record { values = k.values; copy = idle_admissible; line = k.line }

  -- a key that the edit line takes is below 128
  pub pad_typed_lem : (code : ℕ) → code < 128 → SoundPad (pad_typed p code)
  unfolding pad_typed
  pad_typed_lem code h = record { values = k.values; copy = k.copy; line = line_stays_ok p.values p.line code h k.line }

  -- at most 258 bytes go out at it
  pub sent_most : (code : ℕ) → length (sent_at p code) ≤ 258
  sent_most code = out_most p.values (text_of p.line) code (ok_length p.line k.line)

pub pad_pressed_lem : (s : State) → SoundPad s.session.pad → (code : ℕ) → SoundPad (pad_pressed s code)
pad_pressed_lem s k code =
    let f = s.session.frame in
    either SoundPad (takes_key f code) (λ e. pad_typed_lem k code (ltb-true code 128 (and_right (line_takes_keys f) _ e))) (λ e. k)

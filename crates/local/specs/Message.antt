-- Document 02, request (i): one byte of a message of option 30.
use Rattle.std.specs.Prelude.{◌≡◌, ◌&&◌, List, [], ℕ, if◌then◌else◌}
use Rattle.telnet.specs.declared.Event.{Event}
use Rattle.telnet.specs.declared.Event.TheVariants.{Nothing, Data, Negotiation, Begin, Sub, End, EndBare, Lost}
use Rattle.telnet.specs.Reader.{read_of}
use Rattle.pad.specs.Message.{ended}
use Rattle.pad.specs.Response.{response_of}
use Rattle.rules.specs.declared.Frame.{Frame}
use Rattle.rules.specs.declared.Reader.{Reader}
use Rattle.rules.specs.declared.Pad.{Pad}
use Rattle.rules.specs.Number.{x3_option}
use Rattle.rules.specs.Pad.{counts, pad_after}
use Rattle.rules.specs.Operation.{reader_after}
use Rattle.reply.specs.declared.Reply.{Reply}
use Rattle.reply.specs.Written.{Puts}
use Rattle.reply.specs.Pieces.{message_pieces}
use Rattle.local.specs.declared.message.PadTurn.{PadTurn}

-- what is answered, in pieces: RESPONSE-IS to a SEND that ends while option 30 is on
unfoldable pub answer_pieces : Frame → Pad → Event → List (List ℕ)
answer_pieces f p Nothing = []
answer_pieces f p (Data b) = []
answer_pieces f p (Negotiation verb option) = []
answer_pieces f p (Begin option) = []
answer_pieces f p (Sub option b) = []
answer_pieces f p (End option) =
    if counts f option && (ended p.values p.message).asked then message_pieces x3_option (response_of p.values) else []
answer_pieces f p EndBare = []
answer_pieces f p Lost = []

-- the reader, the PAD and the reply after a byte
pub record Reads (f : Frame) (r : Reader) (p : Pad) (b : ℕ) (reply : Reply) (t : PadTurn) (reply' : Reply) : Type 0 where
  pub reader : t.reader ≡ reader_after r b
  pub pad : t.pad ≡ pad_after f p (read_of r.phase b).event
  pub answer : Puts reply (answer_pieces f p (read_of r.phase b).event) reply'

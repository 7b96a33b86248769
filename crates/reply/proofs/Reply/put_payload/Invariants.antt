use Rattle.std.proofs.Common.{drop}
use Rattle.reply.specs.Pieces.{doubled_pieces}
use Rattle.reply.proofs.WriteLaws.{Writing}
use Rattle.reply.proofs.Reply.put_payload.Given as goal

abbrev pub invariant-loop-byte : goal.invariant-loop-byte
invariant-loop-byte l = Writing l.fn.self (doubled_pieces l.payload) l.self (doubled_pieces (drop l.byte-index l.payload))

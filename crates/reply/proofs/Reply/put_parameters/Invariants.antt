use Rattle.std.proofs.Common.{drop}
use Rattle.pad.specs.Response.{response_of}
use Rattle.reply.specs.Pieces.{doubled_pieces}
use Rattle.reply.proofs.WriteLaws.{Writing}
use Rattle.reply.proofs.Reply.put_parameters.Given as goal

abbrev pub invariant-loop-i : goal.invariant-loop-i
invariant-loop-i l = Writing l.fn.self (doubled_pieces (response_of l.values)) l.self (doubled_pieces (drop l.i (response_of l.values)))

use Rattle.std.proofs.Common.{arith}
use Rattle.pad.specs.Response.{response_of}
use Rattle.reply.proofs.WriteLaws.{writing_all, doubled_end}
use Rattle.reply.proofs.Reply.put_parameters.Goals as goal

pub returns : goal.returns
returns c =
    writing_all c.loop-i.invariant
    (doubled_end (response_of c.args.values) c.loop-i.i (omega (arith, c.loop-i-test.false, c.response_length-i-end.ensures)))

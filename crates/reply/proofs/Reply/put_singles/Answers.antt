use Rattle.std.proofs.Common.{arith, rules}
use Rattle.reply.proofs.WriteLaws.{puts_end}
use Rattle.reply.proofs.SingleLaws.{ones_length, ones_all}
use Rattle.reply.proofs.Reply.put_singles.Goals as goal

pub put_single-requires : goal.put_single-requires
put_single-requires c =
    let i = c.loop-i.invariant in
    record { room = (omega (arith, c.requires.room.0), omega (arith, c.requires.room.1, i.next, ones_length i)) }

pub returns : goal.returns
returns c = record {
  same_buffer = search rules;
  wrote = puts_end (ones_all c.loop-i.invariant c.loop-i-test.false) (search rules);
}

use Rattle.std.proofs.Common.{arith, refl, rules}
use Rattle.typing.proofs.OutLaws.{sent_none, sent_few, sent_more, sent_all}
use Rattle.typing.proofs.out.put_forwarded.Goals as goal

pub loop-byte-init : goal.loop-byte-init
loop-byte-init c = record { sent = sent_none; same = refl }

pub put_character-requires : goal.put_character-requires
put_character-requires c = sent_few c.loop-byte.invariant.sent c.text-text.ensures.few

pub loop-byte-preserved : goal.loop-byte-preserved
loop-byte-preserved c =
    record { sent = sent_more c.loop-byte.invariant.sent (omega arith) c.put_character.ensures.stored; same = search rules }

pub put_character-requires-2 : goal.put_character-requires-2
put_character-requires-2 c = sent_few c.loop-byte.invariant.sent c.text-text.ensures.few

pub returns : goal.returns
returns c =
    sent_all c.loop-byte.invariant.sent _ _ c.text-text.ensures.told (omega arith) c.put_character-2.ensures.stored (search rules)

use Rattle.std.proofs.Common.{◌≡◌}
use Rattle.typing.proofs.OutLaws.{Sent}
use Rattle.typing.proofs.out.put_forwarded.Given as goal

abbrev pub invariant-loop-byte : goal.invariant-loop-byte
invariant-loop-byte l = record {
  sent : Sent l.lf l.text l.initial.out.bytes.now l.byte-index l.out.bytes.now l.out.at;
  same : l.out.bytes.ghost_name ≡ l.initial.out.bytes.ghost_name;
}

use Rattle.std.proofs.Common.{◌≡◌, true, take}
use Rattle.telnet.specs.Stream.{before_iac}
use Rattle.telnet.proofs.stretch.is_data.Given as goal

abbrev pub invariant-loop-byte : goal.invariant-loop-byte
invariant-loop-byte g l = l.all ≡ true → before_iac (take l.byte-index l.bytes) ≡ l.byte-index

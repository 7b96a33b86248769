use Rattle.std.proofs.Common.{◌≡◌, take}
use Rattle.command.specs.Held.{holding_all}
use Rattle.command.proofs.held.hold_all.Given as goal

abbrev pub invariant-loop-byte : goal.invariant-loop-byte
invariant-loop-byte l = l.after ≡ holding_all l.initial.after (take l.byte-index l.input)

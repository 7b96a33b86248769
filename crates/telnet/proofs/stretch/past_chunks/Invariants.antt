use Rattle.std.proofs.Common.{◌≡◌, ◌≤◌, ◌+◌, length}
use Rattle.telnet.specs.Stream.{before_iac}
use Rattle.telnet.proofs.stretch.past_chunks.Given as goal

abbrev pub invariant-loop-chunk : goal.invariant-loop-chunk
invariant-loop-chunk g l = record {
  within : length l.rest ≤ length l.bytes;
  passed : before_iac l.bytes + length l.rest ≡ length l.bytes + before_iac l.rest;
}

abbrev pub decreases-loop-chunk : goal.decreases-loop-chunk
decreases-loop-chunk g l = length l.rest

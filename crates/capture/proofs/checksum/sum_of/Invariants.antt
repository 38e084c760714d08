use Rattle.std.proofs.Common.{◌≡◌, ◌+◌, ◌%◌, ◌^◌, ◌<◌, length}
use Rattle.capture.specs.Words.{words}
use Rattle.capture.proofs.checksum.sum_of.Given as goal

abbrev pub invariant-fours : goal.invariant-fours
invariant-fours l = record {
  same : (l.total + words l.rest) % 65535 ≡ words l.bytes % 65535;
  bound : l.total < 2 ^ 33;
}

abbrev pub decreases-fours : goal.decreases-fours
decreases-fours l = length l.rest

abbrev pub invariant-twos : goal.invariant-twos
invariant-twos l = record {
  same : (l.total + words l.rest) % 65535 ≡ words l.bytes % 65535;
  bound : l.total < 2 ^ 33;
}

abbrev pub decreases-twos : goal.decreases-twos
decreases-twos l = length l.rest

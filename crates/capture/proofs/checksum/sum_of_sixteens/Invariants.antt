use Rattle.std.proofs.Common.{◌≡◌, ◌+◌, ◌*◌, ◌%◌, ◌^◌, ◌≤◌, length}
use Rattle.capture.specs.Words.{words}
use Rattle.capture.proofs.checksum.sum_of_sixteens.Given as goal

abbrev pub invariant-sixteens : goal.invariant-sixteens
invariant-sixteens l = record {
  same : ((l.first + l.second + l.third + l.fourth) * 256 + words l.rest) % 65535 ≡ words
      l.bytes % 65535;
  first : 16 * l.first + 2 ^ 32 * length l.rest ≤ 2 ^ 32 * length l.bytes;
  second : 16 * l.second + 2 ^ 32 * length l.rest ≤ 2 ^ 32 * length l.bytes;
  third : 16 * l.third + 2 ^ 32 * length l.rest ≤ 2 ^ 32 * length l.bytes;
  fourth : 16 * l.fourth + 2 ^ 32 * length l.rest ≤ 2 ^ 32 * length l.bytes;
}

abbrev pub decreases-sixteens : goal.decreases-sixteens
decreases-sixteens l = length l.rest

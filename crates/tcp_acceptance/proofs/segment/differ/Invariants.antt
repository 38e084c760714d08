use Rattle.std.proofs.Common.{◌≡◌, drop}
use Rattle.tcp_acceptance.specs.Doubtful.{differ}
use Rattle.tcp_acceptance.proofs.segment.differ.Given as goal

-- The remaining bytes give the same result as all.
abbrev pub invariant-loop-place : goal.invariant-loop-place
invariant-loop-place l =
    differ (drop l.place l.bytes) (drop l.place l.others) ≡ differ l.bytes l.others

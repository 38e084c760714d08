use Rattle.std.proofs.Common.{length, ◌-◌, ◌≡◌, ◌≤◌, drop}
use Rattle.tls_analyzer.specs.Records.{with_bytes}
use Rattle.tls_analyzer.proofs.records.RecordCounter.add.Given as goal

abbrev pub invariant-loop-i : goal.invariant-loop-i
invariant-loop-i l = (l.i ≤ length l.bytes)
    × (with_bytes (drop l.i l.bytes) l.self ≡ with_bytes l.bytes l.initial.self)

abbrev pub decreases-loop-i : goal.decreases-loop-i
decreases-loop-i l = length l.bytes - l.i

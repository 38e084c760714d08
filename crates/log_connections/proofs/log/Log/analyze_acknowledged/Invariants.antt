use Rattle.std.specs.Prelude.{◌≡◌, ◌-◌}
use Rattle.connections.specs.Memory.{IsAccounted}
use Rattle.connections.specs.Segment.{five_tuple_of}
use Rattle.connections.specs.declared.pending.TheConstants.{MAX_PENDING}
use Rattle.log_connections.specs.Log.{AnalyzesAcknowledged, AnalyzesAllAcknowledged, KeepsOthers}
use Rattle.log_connections.proofs.log.Log.analyze_acknowledged.Given as goal

-- What is analyzed from here on, behind what was analyzed so far, is all.
abbrev pub invariant-waiting : goal.invariant-waiting
invariant-waiting g l = record {
  analysis : (final : _) → AnalyzesAcknowledged l.segment (MAX_PENDING - l.count) l.self.connections final
      → AnalyzesAllAcknowledged l.segment l.initial.self.connections final;
  others : KeepsOthers (five_tuple_of l.segment) l.initial.self.connections.live
      l.self.connections.live;
  accounted : IsAccounted l.initial.self.connections → IsAccounted l.self.connections;
  memory : l.self.memory ≡ l.initial.self.memory;
  kept : l.self.kept ≡ l.initial.self.kept;
  arrivals : l.self.arrivals ≡ l.initial.self.arrivals;
}

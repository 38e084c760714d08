use Rattle.std.specs.Prelude.{◌≡◌, true, length, take, []}
use Rattle.connections.specs.Memory.{IsAccounted, closed_count}
use Rattle.log_connections.specs.Log.{uncounted}
use Rattle.log_connections.specs.Found.{AreCounted}
use Rattle.log_connections.specs.Sink.{Adds, IsOverLimit, PassesEnded}
use Rattle.log_connections.proofs.log.Log.evict.Given as goal

-- The sink received those that ended so far, and is sound.
abbrev pub invariant-loop-over : goal.invariant-loop-over
invariant-loop-over g l = record {
  ended : (ended : PassesEnded true (IsOverLimit l.initial.self.connections l.initial.self.memory)
      l.initial.self.connections.live l.self.connections.live (g.S.Sink.received l.initial.sink)
      (g.S.Sink.received l.sink))
      × AreCounted ended.outs l.initial.self.arrivals.counts l.self.arrivals.counts;
  lent : Adds (g.S.Sink.lent l.initial.sink) (g.S.Sink.lent l.sink) [];
  accounted : IsAccounted l.initial.self.connections → IsAccounted l.self.connections;
  front : take (closed_count l.initial.self.memory) l.self.connections.closed
      ≡ take (closed_count l.initial.self.memory) l.initial.self.connections.closed;
  memory : l.self.memory ≡ l.initial.self.memory;
  kept : l.self.kept ≡ l.initial.self.kept;
  reader : uncounted l.self.arrivals ≡ uncounted l.initial.self.arrivals;
  sound : g.S.Sink.is_sound l.initial.sink ≡ true → g.S.Sink.is_sound l.sink ≡ true;
}

abbrev pub decreases-loop-over : goal.decreases-loop-over
decreases-loop-over g l = length l.self.connections.live

use Rattle.std.specs.Prelude.{◌≡◌, true, length, false, []}
use Rattle.connections.specs.Memory.{IsAccounted}
use Rattle.connections.specs.Table.{IsForgotten}
use Rattle.log_connections.specs.Log.{uncounted}
use Rattle.log_connections.specs.Found.{AreCounted}
use Rattle.log_connections.specs.Sink.{Adds, IsIdle, PassesEnded}
use Rattle.log_connections.proofs.log.Log.end_idle.Given as goal

-- The sink received those that ended so far, and is sound.
abbrev pub invariant-loop-over : goal.invariant-loop-over
invariant-loop-over g l = record {
  ended : (ended : PassesEnded false (IsIdle l.fn.time) l.initial.self.connections.live
      l.self.connections.live (g.S.Sink.received l.initial.sink) (g.S.Sink.received l.sink))
      × AreCounted ended.outs l.initial.self.arrivals.counts l.self.arrivals.counts;
  lent : Adds (g.S.Sink.lent l.initial.sink) (g.S.Sink.lent l.sink) [];
  accounted : IsAccounted l.initial.self.connections → IsAccounted l.self.connections;
  forgotten : IsForgotten l.fn.time l.initial.self.connections.closed l.self.connections.closed;
  memory : l.self.memory ≡ l.initial.self.memory;
  kept : l.self.kept ≡ l.initial.self.kept;
  reader : uncounted l.self.arrivals ≡ uncounted l.initial.self.arrivals;
  sound : g.S.Sink.is_sound l.initial.sink ≡ true → g.S.Sink.is_sound l.sink ≡ true;
}

abbrev pub decreases-loop-over : goal.decreases-loop-over
decreases-loop-over g l = length l.self.connections.live

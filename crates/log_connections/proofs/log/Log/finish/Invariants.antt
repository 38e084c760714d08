use Rattle.std.specs.Prelude.{◌≡◌, true, length, false, []}
use Rattle.connections.specs.Memory.{IsAccounted}
use Rattle.log_connections.specs.Found.{AreCounted, HasCut}
use Rattle.log_connections.specs.Sink.{Adds, IsOpen, PassesEnded}
use Rattle.log_connections.proofs.log.Log.finish.Given as goal

-- The sink received those that ended so far, and is sound.
abbrev pub invariant-loop-over : goal.invariant-loop-over
invariant-loop-over g l = record {
  ended : (ended : PassesEnded false IsOpen l.initial.self.connections.live
      l.self.connections.live (g.S.Sink.received l.initial.sink) (g.S.Sink.received l.sink))
      × AreCounted ended.outs l.initial.self.arrivals.counts l.self.arrivals.counts;
  lent : Adds (g.S.Sink.lent l.initial.sink) (g.S.Sink.lent l.sink) [];
  cut : HasCut l.initial.self.arrivals l.self.arrivals.counts;
  accounted : IsAccounted l.initial.self.connections → IsAccounted l.self.connections;
  sound : g.S.Sink.is_sound l.initial.sink ≡ true → g.S.Sink.is_sound l.sink ≡ true;
}

abbrev pub decreases-loop-over : goal.decreases-loop-over
decreases-loop-over g l = length l.self.connections.live

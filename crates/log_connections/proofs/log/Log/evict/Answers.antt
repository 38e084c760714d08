use Rattle.log_connections.proofs.WeightLemmas.{fits_again, fits_same}
use Rattle.std.proofs.Common.{refl, ◌∙◌, ap, true, []}
use Rattle.connections.proofs.TableLemmas.{on_err}
use Rattle.log_connections.proofs.SinkLemmas.{adds_none, adds_still, all_but_last, ended_still, evicted_by, none_ended, one_more_ended}
use Rattle.log_connections.specs.Log.{uncounted}
use Rattle.log_connections.specs.Sink.{IsOverLimit}
use Rattle.log_connections.proofs.log.Log.evict.Goals as goal

pub loop-over-init : goal.loop-over-init
loop-over-init g c = record {
  ended = none_ended true (IsOverLimit c.args.self.now.connections c.args.self.now.memory) c.args.self.now.connections.live (g.S.Sink.received c.args.sink.now)
      c.args.self.now.arrivals.counts;
  lent = adds_none (g.S.Sink.lent c.args.sink.now);
  accounted = λ h. h;
  front = refl;
  memory = refl;
  kept = refl;
  reader = refl;
  sound = λ h. h;
}

pub loop-over-preserved : goal.loop-over-preserved
loop-over-preserved g c =
    let last = rw c.in-Some.is at c.take_evicted.ensures.evicted in
    rw c.in_ok-end_connection.ensures.same
    (record {
      ended =
          one_more_ended true (IsOverLimit c.args.self.now.connections c.args.self.now.memory) c.args.self.now.connections.live c.loop-over.self.connections.live
          c.take_evicted.new.self.connections.live last.0 c.in-Some.over.value
          (g.S.Sink.received c.args.sink.now) (g.S.Sink.received c.loop-over.sink)
          (g.S.Sink.received c.end_connection.new.sink) c.args.self.now.arrivals.counts
          c.loop-over.self.arrivals.counts c.take_evicted.new.self.arrivals.counts
          c.end_connection.new.self.arrivals.counts c.loop-over.invariant.ended
          (evicted_by c.args.self.now.connections c.loop-over.self.connections
          c.loop-over.self.memory c.args.self.now.memory last.0 c.loop-over.invariant.memory
          c.loop-over.invariant.accounted last.2) last.1
          c.in_ok-end_connection.ensures.received (ap (λ r. r.counts) c.take_evicted.ensures.arrivals)
          c.end_connection.ensures.counted;
      lent = adds_still (g.S.Sink.lent c.args.sink.now) (g.S.Sink.lent c.loop-over.sink)
          (g.S.Sink.lent c.end_connection.new.sink) [] c.loop-over.invariant.lent
          c.end_connection.ensures.lent;
      front = fits_again c.args.self.now.memory c.loop-over.self.memory
          c.args.self.now.connections.closed c.loop-over.self.connections.closed
          c.take_evicted.new.self.connections.closed c.loop-over.invariant.memory
          c.loop-over.invariant.front c.take_evicted.ensures.closed;
      accounted = λ h. c.take_evicted.ensures.accounted (c.loop-over.invariant.accounted h);
      memory = c.take_evicted.ensures.memory ∙ c.loop-over.invariant.memory;
      kept = c.take_evicted.ensures.kept ∙ c.loop-over.invariant.kept;
      reader = c.end_connection.ensures.reader ∙ ap uncounted c.take_evicted.ensures.arrivals
          ∙ c.loop-over.invariant.reader;
      sound = λ h. c.in_ok-end_connection.ensures.sound (c.loop-over.invariant.sound h);
    })

pub returns-in_err-end_connection-clause-stopped : goal.returns-in_err-end_connection-clause-stopped
returns-in_err-end_connection-clause-stopped g c =
    let last = rw c.in-Some.is at c.take_evicted.ensures.evicted in
    rw c.end_connection.ensures.same
    (on_err c.from_residual.result (all_but_last true (IsOverLimit c.args.self.now.connections c.args.self.now.memory)
    c.args.self.now.connections.live c.loop-over.self.connections.live
    c.take_evicted.new.self.connections.live last.0 c.in-Some.over.value
    (g.S.Sink.received c.args.sink.now) (g.S.Sink.received c.loop-over.sink)
    (g.S.Sink.received c.end_connection.new.sink) c.loop-over.invariant.ended.0
    (evicted_by c.args.self.now.connections c.loop-over.self.connections
    c.loop-over.self.memory c.args.self.now.memory last.0 c.loop-over.invariant.memory
    c.loop-over.invariant.accounted last.2) last.1
    c.in_err-end_connection.ensures.received))

pub returns-in_err-end_connection-clause-accounted : goal.returns-in_err-end_connection-clause-accounted
returns-in_err-end_connection-clause-accounted g c =
    rw c.end_connection.ensures.same
    (λ h. c.take_evicted.ensures.accounted (c.loop-over.invariant.accounted h))

pub returns-clause-closed : goal.returns-clause-closed
returns-clause-closed g c =
    fits_same c.args.self.now.memory c.loop-over.self.memory c.args.self.now.connections.closed
    c.loop-over.self.connections.closed c.take_evicted.new.self.connections.closed
    c.loop-over.invariant.memory c.loop-over.invariant.front c.take_evicted.ensures.closed

pub returns-in_err-end_connection-clause-lent : goal.returns-in_err-end_connection-clause-lent
returns-in_err-end_connection-clause-lent g c =
    adds_still (g.S.Sink.lent c.args.sink.now) (g.S.Sink.lent c.loop-over.sink)
    (g.S.Sink.lent c.end_connection.new.sink) [] c.loop-over.invariant.lent
    c.end_connection.ensures.lent

pub returns-clause-ended : goal.returns-clause-ended
returns-clause-ended g c =
    ended_still true (IsOverLimit c.args.self.now.connections c.args.self.now.memory)
    c.args.self.now.connections.live c.loop-over.self.connections.live
    c.take_evicted.new.self.connections.live (g.S.Sink.received c.args.sink.now)
    (g.S.Sink.received c.loop-over.sink) c.args.self.now.arrivals.counts
    c.loop-over.self.arrivals.counts c.take_evicted.new.self.arrivals.counts c.loop-over.invariant.ended
    (rw c.in_default.is at c.take_evicted.ensures.evicted).0 (ap (λ r. r.counts) c.take_evicted.ensures.arrivals)

use Rattle.connections.specs.Table.IsForgotten.{none}
use Rattle.log_connections.proofs.WeightLemmas.{forgotten_then}
use Rattle.std.proofs.Common.{refl, ◌∙◌, ap, false, []}
use Rattle.connections.proofs.TableLemmas.{on_err}
use Rattle.log_connections.proofs.SinkLemmas.{adds_none, adds_still, all_but_last, ended_still, none_ended, one_more_ended}
use Rattle.log_connections.specs.Log.{uncounted}
use Rattle.log_connections.specs.Sink.{IsIdle}
use Rattle.log_connections.proofs.log.Log.end_idle.Goals as goal

pub loop-over-init : goal.loop-over-init
loop-over-init g c = record {
  ended = none_ended false (IsIdle c.args.time) c.args.self.now.connections.live (g.S.Sink.received c.args.sink.now)
      c.args.self.now.arrivals.counts;
  lent = adds_none (g.S.Sink.lent c.args.sink.now);
  accounted = λ h. h;
  forgotten = none;
  memory = refl;
  kept = refl;
  reader = refl;
  sound = λ h. h;
}

pub loop-over-preserved : goal.loop-over-preserved
loop-over-preserved g c =
    let last = rw c.in-Some.is at c.take_over.ensures.idle in
    rw c.in_ok-end_connection.ensures.same
    (record {
      ended =
          one_more_ended false (IsIdle c.args.time) c.args.self.now.connections.live c.loop-over.self.connections.live
          c.take_over.new.self.connections.live last.0 c.in-Some.over.value
          (g.S.Sink.received c.args.sink.now) (g.S.Sink.received c.loop-over.sink)
          (g.S.Sink.received c.end_connection.new.sink) c.args.self.now.arrivals.counts
          c.loop-over.self.arrivals.counts c.take_over.new.self.arrivals.counts
          c.end_connection.new.self.arrivals.counts c.loop-over.invariant.ended last.2 last.1
          c.in_ok-end_connection.ensures.received (ap (λ r. r.counts) c.take_over.ensures.arrivals)
          c.end_connection.ensures.counted;
      lent = adds_still (g.S.Sink.lent c.args.sink.now) (g.S.Sink.lent c.loop-over.sink)
          (g.S.Sink.lent c.end_connection.new.sink) [] c.loop-over.invariant.lent
          c.end_connection.ensures.lent;
      forgotten = forgotten_then c.args.time c.loop-over.invariant.forgotten c.take_over.ensures.forgotten;
      accounted = λ h. c.take_over.ensures.accounted (c.loop-over.invariant.accounted h);
      memory = c.take_over.ensures.memory ∙ c.loop-over.invariant.memory;
      kept = c.take_over.ensures.kept ∙ c.loop-over.invariant.kept;
      reader = c.end_connection.ensures.reader ∙ ap uncounted c.take_over.ensures.arrivals
          ∙ c.loop-over.invariant.reader;
      sound = λ h. c.in_ok-end_connection.ensures.sound (c.loop-over.invariant.sound h);
    })

pub returns-in_err-end_connection-clause-stopped : goal.returns-in_err-end_connection-clause-stopped
returns-in_err-end_connection-clause-stopped g c =
    let last = rw c.in-Some.is at c.take_over.ensures.idle in
    rw c.end_connection.ensures.same
    (on_err c.from_residual.result (all_but_last false (IsIdle c.args.time) c.args.self.now.connections.live c.loop-over.self.connections.live
    c.take_over.new.self.connections.live last.0 c.in-Some.over.value
    (g.S.Sink.received c.args.sink.now) (g.S.Sink.received c.loop-over.sink)
    (g.S.Sink.received c.end_connection.new.sink) c.loop-over.invariant.ended.0 last.2 last.1
    c.in_err-end_connection.ensures.received))

pub returns-in_err-end_connection-clause-accounted : goal.returns-in_err-end_connection-clause-accounted
returns-in_err-end_connection-clause-accounted g c =
    rw c.end_connection.ensures.same
    (λ h. c.take_over.ensures.accounted (c.loop-over.invariant.accounted h))

pub returns-in_err-end_connection-clause-forgotten : goal.returns-in_err-end_connection-clause-forgotten
returns-in_err-end_connection-clause-forgotten g c =
    rw c.end_connection.ensures.same
    (forgotten_then c.args.time c.loop-over.invariant.forgotten c.take_over.ensures.forgotten)

pub returns-clause-forgotten : goal.returns-clause-forgotten
returns-clause-forgotten g c =
    forgotten_then c.args.time c.loop-over.invariant.forgotten c.take_over.ensures.forgotten

pub returns-in_err-end_connection-clause-lent : goal.returns-in_err-end_connection-clause-lent
returns-in_err-end_connection-clause-lent g c =
    adds_still (g.S.Sink.lent c.args.sink.now) (g.S.Sink.lent c.loop-over.sink)
    (g.S.Sink.lent c.end_connection.new.sink) [] c.loop-over.invariant.lent
    c.end_connection.ensures.lent

pub returns-clause-ended : goal.returns-clause-ended
returns-clause-ended g c =
    ended_still false (IsIdle c.args.time)
    c.args.self.now.connections.live c.loop-over.self.connections.live
    c.take_over.new.self.connections.live (g.S.Sink.received c.args.sink.now)
    (g.S.Sink.received c.loop-over.sink) c.args.self.now.arrivals.counts
    c.loop-over.self.arrivals.counts c.take_over.new.self.arrivals.counts c.loop-over.invariant.ended
    (rw c.in_default.is at c.take_over.ensures.idle).0 (ap (λ r. r.counts) c.take_over.ensures.arrivals)

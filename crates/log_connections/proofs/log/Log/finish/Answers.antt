use Rattle.std.proofs.Common.{refl, sym, ◌∙◌, ap, false, []}
use Rattle.connections.proofs.TableLemmas.{on_err}
use Rattle.log_connections.proofs.FoundLemmas.{cut_counted}
use Rattle.log_connections.proofs.SinkLemmas.{adds_none, adds_still, all_but_last, ended_still, none_ended, one_more_ended}
use Rattle.log_connections.specs.Sink.{IsOpen}
use Rattle.log_connections.proofs.log.Log.finish.Goals as goal

pub loop-over-init : goal.loop-over-init
loop-over-init g c = record {
  ended = none_ended false IsOpen c.args.self.now.connections.live
      (g.S.Sink.received c.args.sink.now) c.count_cut.new.self.counts;
  lent = adds_none (g.S.Sink.lent c.args.sink.now);
  cut = rw c.count_cut.ensures (refl, refl, refl);
  accounted = λ h. h;
  sound = λ h. h;
}

pub loop-over-preserved : goal.loop-over-preserved
loop-over-preserved g c =
    let last = rw c.in-Some.is at c.take_remaining.ensures.last in
    rw c.in_ok-end_connection.ensures.same
    (record {
      ended =
          one_more_ended false IsOpen c.args.self.now.connections.live c.loop-over.self.connections.live
          c.take_remaining.new.self.connections.live last.0 c.in-Some.over.value
          (g.S.Sink.received c.args.sink.now) (g.S.Sink.received c.loop-over.sink)
          (g.S.Sink.received c.end_connection.new.sink)
          c.count_cut.new.self.counts c.loop-over.self.arrivals.counts
          c.take_remaining.new.self.arrivals.counts c.end_connection.new.self.arrivals.counts
          c.loop-over.invariant.ended tt last.1 c.in_ok-end_connection.ensures.received
          (ap (λ r. r.counts) c.take_remaining.ensures.arrivals) c.end_connection.ensures.counted;
      lent = adds_still (g.S.Sink.lent c.args.sink.now) (g.S.Sink.lent c.loop-over.sink)
          (g.S.Sink.lent c.end_connection.new.sink) [] c.loop-over.invariant.lent
          c.end_connection.ensures.lent;
      cut = cut_counted c.count_cut.new.self c.in-Some.over.value
          c.take_remaining.new.self.arrivals.counts c.end_connection.new.self.arrivals.counts
          (rw c.take_remaining.ensures.arrivals c.loop-over.invariant.cut)
          c.end_connection.ensures.counted;
      accounted = λ h. c.take_remaining.ensures.accounted (c.loop-over.invariant.accounted h);
      sound = λ h. c.in_ok-end_connection.ensures.sound (c.loop-over.invariant.sound h);
    })

pub returns-in_err-end_connection-clause-stopped : goal.returns-in_err-end_connection-clause-stopped
returns-in_err-end_connection-clause-stopped g c =
    let last = rw c.in-Some.is at c.take_remaining.ensures.last in
    rw c.end_connection.ensures.same
    (on_err c.from_residual.result (all_but_last false IsOpen c.args.self.now.connections.live c.loop-over.self.connections.live
    c.take_remaining.new.self.connections.live last.0 c.in-Some.over.value
    (g.S.Sink.received c.args.sink.now) (g.S.Sink.received c.loop-over.sink)
    (g.S.Sink.received c.end_connection.new.sink) c.loop-over.invariant.ended.0 tt last.1
    c.in_err-end_connection.ensures.received))

pub returns-in_err-end_connection-clause-accounted : goal.returns-in_err-end_connection-clause-accounted
returns-in_err-end_connection-clause-accounted g c =
    rw c.end_connection.ensures.same
    (λ h. c.take_remaining.ensures.accounted (c.loop-over.invariant.accounted h))

pub returns-in_err-end_connection-clause-cut : goal.returns-in_err-end_connection-clause-cut
returns-in_err-end_connection-clause-cut g c =
    rw c.end_connection.ensures.same
    (rw c.count_cut.ensures at
    (cut_counted c.count_cut.new.self c.in-Some.over.value
    c.take_remaining.new.self.arrivals.counts c.end_connection.new.self.arrivals.counts
    (rw c.take_remaining.ensures.arrivals c.loop-over.invariant.cut)
    c.end_connection.ensures.counted))

pub returns-clause-cut : goal.returns-clause-cut
returns-clause-cut g c =
    rw c.take_remaining.ensures.arrivals (rw c.count_cut.ensures at c.loop-over.invariant.cut)

pub returns-in_err-end_connection-clause-lent : goal.returns-in_err-end_connection-clause-lent
returns-in_err-end_connection-clause-lent g c =
    adds_still (g.S.Sink.lent c.args.sink.now) (g.S.Sink.lent c.loop-over.sink)
    (g.S.Sink.lent c.end_connection.new.sink) [] c.loop-over.invariant.lent
    c.end_connection.ensures.lent

pub returns-clause-ended : goal.returns-clause-ended
returns-clause-ended g c =
    let last = rw c.in_default.is at c.take_remaining.ensures.last in
    rw c.count_cut.ensures at
    (ended_still false IsOpen c.args.self.now.connections.live c.loop-over.self.connections.live
    c.take_remaining.new.self.connections.live (g.S.Sink.received c.args.sink.now)
    (g.S.Sink.received c.loop-over.sink) c.count_cut.new.self.counts
    c.loop-over.self.arrivals.counts c.take_remaining.new.self.arrivals.counts
    c.loop-over.invariant.ended (last.1 ∙ sym last.0)
    (ap (λ r. r.counts) c.take_remaining.ensures.arrivals))

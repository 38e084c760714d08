use Rattle.std.proofs.Common.{◌∙◌, []}
use Rattle.log_connections.specs.Packet.{at_arrival, at_eviction, at_idle, lent_at, lent_in, passes_on}
use Rattle.log_connections.proofs.PacketLemmas.{given, with_err}
use Rattle.log_connections.proofs.SinkLemmas.{adds_between, adds_then}
use Rattle.log_connections.proofs.WeightLemmas.{three_ok}
use Rattle.log_connections.proofs.log.Log.process.Goals as goal

pub returns-clause-processed : goal.returns-clause-processed
returns-clause-processed g c =
    let same = c.in_ok-process_arrival.ensures.memory ∙ c.in_ok-end_idle.ensures.memory in
    let idle = rw c.time.ensures at c.in_ok-end_idle.ensures.ended in
    let arrives = c.in_ok-process_arrival.ensures.arrives in
    three_ok c.evict.result _ _ _ _
    (λ evicted within closed. (
      record {
        awake = c.end_idle.new.self.connections;
        full = c.process_arrival.new.self.connections;
        first = g.S.Sink.received c.end_idle.new.sink;
        second = g.S.Sink.received c.process_arrival.new.sink;
        idle = idle.0;
        none_idle = rw c.time.ensures at c.in_ok-end_idle.ensures.none;
        forgotten = rw c.time.ensures at c.end_idle.ensures.forgotten;
        none_to_forget = rw c.time.ensures at c.in_ok-end_idle.ensures.none_to_forget;
        arrives = arrives.0;
        evicted = (rw same at evicted).0;
        within = λ h. (rw same at within)
            (c.process_arrival.ensures.accounted (c.end_idle.ensures.accounted h));
        closed = rw same at closed;
      },
      record {
        behind_idle = c.end_idle.new.self.arrivals.counts;
        behind_arrival = c.process_arrival.new.self.arrivals.counts;
        idle = idle.1;
        arrives = arrives.1;
        evicted = (rw same at evicted).1;
      },
      adds_between (g.S.Sink.lent c.args.sink.now) (g.S.Sink.lent c.end_idle.new.sink)
          (g.S.Sink.lent c.process_arrival.new.sink) (g.S.Sink.lent c.evict.new.sink)
          (lent_in (passes_on c.args.self.now.kept) arrives.0) c.end_idle.ensures.lent
          (rw c.in_ok-end_idle.ensures.kept at arrives.2) c.evict.ensures.lent,
    ))
    c.evict.ensures.ended c.evict.ensures.within c.evict.ensures.closed

pub returns-in_err-end_idle-clause-stopped : goal.returns-in_err-end_idle-clause-stopped
returns-in_err-end_idle-clause-stopped g c =
    given c.from_residual.result c.in_err-end_idle.field-0.0 _ c.from_residual.ensures.1 (
      at_idle c.in_err-end_idle.ensures.failed
          (rw c.time.ensures at c.in_err-end_idle.ensures.stopped),
      c.end_idle.ensures.lent,
    )

pub returns-in_err-process_arrival-clause-stopped : goal.returns-in_err-process_arrival-clause-stopped
returns-in_err-process_arrival-clause-stopped g c =
    let stops = c.in_err-process_arrival.ensures.stopped in
    given c.from_residual-in_err-process_arrival.result c.in_err-process_arrival.field-0.0 _
    c.from_residual-in_err-process_arrival.ensures.1 (
      at_arrival c.end_idle.new.self.connections (g.S.Sink.received c.end_idle.new.sink)
          (rw c.time.ensures at c.in_ok-end_idle.ensures.ended).0
          (rw c.time.ensures at c.in_ok-end_idle.ensures.none) stops.0,
      adds_then (g.S.Sink.lent c.args.sink.now) (g.S.Sink.lent c.end_idle.new.sink)
          (g.S.Sink.lent c.process_arrival.new.sink) []
          (lent_at (passes_on c.args.self.now.kept) stops.0) c.end_idle.ensures.lent
          (rw c.in_ok-end_idle.ensures.kept at stops.1),
    )

pub returns-clause-stopped : goal.returns-clause-stopped
returns-clause-stopped g c =
    let same = c.in_ok-process_arrival.ensures.memory ∙ c.in_ok-end_idle.ensures.memory in
    let arrives = c.in_ok-process_arrival.ensures.arrives in
    with_err c.evict.result _ _ _
    (λ error passes of_sink. (
      at_eviction c.end_idle.new.self.connections c.process_arrival.new.self.connections
          (g.S.Sink.received c.end_idle.new.sink) (g.S.Sink.received c.process_arrival.new.sink)
          (rw c.time.ensures at c.in_ok-end_idle.ensures.ended).0
          (rw c.time.ensures at c.in_ok-end_idle.ensures.none) arrives.0 of_sink
          (rw same at passes),
      adds_between (g.S.Sink.lent c.args.sink.now) (g.S.Sink.lent c.end_idle.new.sink)
          (g.S.Sink.lent c.process_arrival.new.sink) (g.S.Sink.lent c.evict.new.sink)
          (lent_in (passes_on c.args.self.now.kept) arrives.0) c.end_idle.ensures.lent
          (rw c.in_ok-end_idle.ensures.kept at arrives.2) c.evict.ensures.lent,
    ))
    c.evict.ensures.stopped c.evict.ensures.failed

pub returns-clause-accounted : goal.returns-clause-accounted
returns-clause-accounted g c =
    λ h. c.evict.ensures.accounted
    (c.process_arrival.ensures.accounted (c.end_idle.ensures.accounted h))

pub returns-in_err-process_arrival-clause-accounted : goal.returns-in_err-process_arrival-clause-accounted
returns-in_err-process_arrival-clause-accounted g c =
    λ h. c.process_arrival.ensures.accounted (c.end_idle.ensures.accounted h)

use Rattle.std.proofs.Common.{[]}
use Rattle.log_connections.proofs.SinkLemmas.{adds_still}
use Rattle.arrivals.specs.Arrival.{five_tuple_in}
use Rattle.log_connections.proofs.PacketLemmas.{given, not_neither, refused_ends, stops_oldest, stops_own}
use Rattle.log_connections.proofs.log.Log.end_refused.Goals as goal

pub returns-in_err-has_own-clause-stopped : goal.returns-in_err-has_own-clause-stopped
returns-in_err-has_own-clause-stopped g c =
    rw c.end_removed.ensures.same
    (given c.from_residual.result c.in_err-has_own.field-0.0 _ c.from_residual.ensures.1
    (stops_own (λ b. b.value) (five_tuple_in c.args.arrival.now) c.in_err-has_own.field-0.0
    c.args.self.now.connections c.take_refused-own.new.self.connections c.take_refused-own.result
    (g.S.Sink.received c.args.sink.now) (g.S.Sink.received c.end_removed.new.sink)
    c.take_refused-own.ensures.own c.take_refused-own.ensures.others
    c.in_err-has_own.ensures.stopped.0
    c.in_err-has_own.ensures.stopped.1 c.in_err-has_own.ensures.failed))

pub returns-in_err-has_oldest-clause-stopped : goal.returns-in_err-has_oldest-clause-stopped
returns-in_err-has_oldest-clause-stopped g c =
    rw c.end_removed-2.ensures.same
    (given c.from_residual-in_err-has_oldest.result c.in_err-has_oldest.field-0.0 _
    c.from_residual-in_err-has_oldest.ensures.1
    (stops_oldest (λ b. b.value) (five_tuple_in c.args.arrival.now) c.in_err-has_oldest.field-0.0
    c.args.self.now.connections c.take_refused-own.new.self.connections
    c.take_oldest-oldest.new.self.connections c.take_refused-own.result c.take_oldest-oldest.result
    (g.S.Sink.received c.args.sink.now) (g.S.Sink.received c.end_removed.new.sink)
    (g.S.Sink.received c.end_removed-2.new.sink) c.take_refused-own.ensures.own
    c.take_refused-own.ensures.others
    (rw c.in_ok-has_own.ensures.same at c.take_oldest-oldest.ensures.oldest)
    c.in_err-has_oldest.ensures.stopped.0 c.in_ok-has_own.ensures.received
    c.in_err-has_oldest.ensures.stopped.1 c.in_err-has_oldest.ensures.failed))

pub returns-clause-ended : goal.returns-clause-ended
returns-clause-ended g c =
    rw c.in_ok-has_oldest.ensures.same
    (refused_ends (λ b. b.value) (five_tuple_in c.args.arrival.now) c.args.self.now.connections
    c.take_refused-own.new.self.connections c.take_oldest-oldest.new.self.connections
    c.take_refused-own.result c.take_oldest-oldest.result c.in_ok-has_own.has_own
    c.in_ok-has_oldest.has_oldest (g.S.Sink.received c.args.sink.now)
    (g.S.Sink.received c.end_removed.new.sink) (g.S.Sink.received c.end_removed-2.new.sink)
    c.args.self.now.arrivals.counts c.end_removed.new.self.arrivals.counts
    c.end_removed-2.new.self.arrivals.counts
    c.take_refused-own.ensures.own c.take_refused-own.ensures.others
    (rw c.in_ok-has_own.ensures.same at c.take_oldest-oldest.ensures.oldest)
    c.in_ok-has_own.ensures.was c.in_ok-has_oldest.ensures.was
    (not_neither c.in_ok-has_own.has_own c.in_ok-has_oldest.has_oldest c.else-not-has_own.either)
    c.in_ok-has_own.ensures.received c.in_ok-has_oldest.ensures.received
    (rw c.take_refused-own.ensures.arrivals at c.end_removed.ensures.counted)
    (rw c.take_oldest-oldest.ensures.arrivals at c.end_removed-2.ensures.counted))

pub returns-in_err-has_own-clause-accounted : goal.returns-in_err-has_own-clause-accounted
returns-in_err-has_own-clause-accounted g c =
    rw c.end_removed.ensures.same c.take_refused-own.ensures.accounted

pub returns-in_err-has_oldest-clause-accounted : goal.returns-in_err-has_oldest-clause-accounted
returns-in_err-has_oldest-clause-accounted g c =
    rw c.end_removed-2.ensures.same
    (λ h. (rw c.in_ok-has_own.ensures.same at c.take_oldest-oldest.ensures.accounted)
    (c.take_refused-own.ensures.accounted h))

pub returns-clause-accounted : goal.returns-clause-accounted
returns-clause-accounted g c =
    rw c.in_ok-has_oldest.ensures.same
    (λ h. (rw c.in_ok-has_own.ensures.same at c.take_oldest-oldest.ensures.accounted)
    (c.take_refused-own.ensures.accounted h))

pub returns-in_err-has_oldest-clause-lent : goal.returns-in_err-has_oldest-clause-lent
returns-in_err-has_oldest-clause-lent g c =
    adds_still (g.S.Sink.lent c.args.sink.now) (g.S.Sink.lent c.end_removed.new.sink)
    (g.S.Sink.lent c.end_removed-2.new.sink) [] c.end_removed.ensures.lent
    c.end_removed-2.ensures.lent

pub returns-clause-lent : goal.returns-clause-lent
returns-clause-lent g c =
    adds_still (g.S.Sink.lent c.args.sink.now) (g.S.Sink.lent c.end_removed.new.sink)
    (g.S.Sink.lent c.end_removed-2.new.sink) [] c.end_removed.ensures.lent
    c.end_removed-2.ensures.lent

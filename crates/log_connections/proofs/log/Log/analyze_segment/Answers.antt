use Rattle.log_connections.proofs.WeightLemmas.{weighed_first}
use Rattle.connections.proofs.MemoryLemmas.{accounted_written}
use Rattle.std.proofs.Common.{refl, sym, ◌∙◌}
use Rattle.connections.proofs.TableLemmas.{stands_first}
use Rattle.connections.specs.Lends.{with_first}
use Rattle.connections.specs.Segment.{five_tuple_of}
use Rattle.connections.specs.Table.{others}
use Rattle.log_connections.proofs.LogLemmas.{closes, received_by_open, is_belonging}
use Rattle.log_connections.proofs.OtherLemmas.{keeps_first}
use Rattle.log_connections.specs.Analysis.{IsPrepared}
use Rattle.log_connections.specs.Sides.{IsReady}
use Rattle.log_connections.proofs.log.Log.analyze_segment.Goals as goal

pub returns-in_err-accept-clause-others : goal.returns-in_err-accept-clause-others
returns-in_err-accept-clause-others g c =
    rw c.between.ensures
    (keeps_first (five_tuple_of c.args.segment.now) c.args.self.now.connections
    c.in-Some.connection.now c.accept.new.self
    (rw c.between.ensures at c.in-Some.ensures.value))

pub returns-in_err-analyze-clause-others : goal.returns-in_err-analyze-clause-others
returns-in_err-analyze-clause-others g c =
    rw c.between.ensures
    (keeps_first (five_tuple_of c.args.segment.now) c.args.self.now.connections
    c.in-Some.connection.now c.analyze.new.connection
    (rw c.between.ensures at c.in-Some.ensures.value))

pub returns-in-Some-clause-prepared : goal.returns-in-Some-clause-prepared
returns-in-Some-clause-prepared g c =
    rw c.between.ensures
    (received_by_open (IsPrepared c.args.self.now.arrivals.tunnels c.args.self.now.kept)
    c.args.segment.now c.args.self.now.connections c.in-Some.connection.now
    c.accept.new.self
    c.analyze.new.connection (rw c.between.ensures at c.in-Some.ensures.value)
    c.in_ok-accept.ensures.taken c.in_ok-analyze.ensures.prepared)

pub returns-in-Some-clause-logged : goal.returns-in-Some-clause-logged
returns-in-Some-clause-logged g c =
    rw c.between.ensures
    (received_by_open IsReady c.args.segment.now c.args.self.now.connections c.in-Some.connection.now
    c.accept.new.self
    c.analyze.new.connection (rw c.between.ensures at c.in-Some.ensures.value)
    c.in_ok-accept.ensures.taken c.in_ok-analyze.ensures.analysis)

pub returns-in-Some-clause-belongs : goal.returns-in-Some-clause-belongs
returns-in-Some-clause-belongs g c =
    sym (is_belonging c.args.segment.now c.args.self.now.connections _
    (sym (rw c.between.ensures at c.in-Some.ensures.value)) refl)

pub returns-in-Some-clause-closed : goal.returns-in-Some-clause-closed
returns-in-Some-clause-closed g c =
    let s = c.args.segment.now in let old = c.args.self.now.connections in
    let its = c.analyze.new.connection in
    rw c.between.ensures
    (c.is_closed.ensures
    ∙ closes s (with_first (five_tuple_of s) its old) its (others (five_tuple_of s) old.live)
    (stands_first (five_tuple_of s) old c.in-Some.connection.now its
    (rw c.between.ensures at c.in-Some.ensures.value)))

pub returns-in-Some-clause-others : goal.returns-in-Some-clause-others
returns-in-Some-clause-others g c =
    rw c.between.ensures
    (keeps_first (five_tuple_of c.args.segment.now) c.args.self.now.connections
    c.in-Some.connection.now c.analyze.new.connection
    (rw c.between.ensures at c.in-Some.ensures.value))

pub returns-in_err-accept-clause-accounted : goal.returns-in_err-accept-clause-accounted
returns-in_err-accept-clause-accounted g c =
    rw c.between.ensures
    (accounted_written (five_tuple_of c.args.segment.now) c.args.self.now.connections c.in-Some.connection.now
    c.accept.new.self (rw c.between.ensures at c.in-Some.ensures.value) c.accept.ensures.weight)

pub returns-in_err-analyze-clause-accounted : goal.returns-in_err-analyze-clause-accounted
returns-in_err-analyze-clause-accounted g c =
    rw c.between.ensures
    (accounted_written (five_tuple_of c.args.segment.now) c.args.self.now.connections c.in-Some.connection.now
    c.analyze.new.connection (rw c.between.ensures at c.in-Some.ensures.value)
    (c.analyze.ensures.weight ∙ c.accept.ensures.weight))

pub returns-in-Some-clause-accounted : goal.returns-in-Some-clause-accounted
returns-in-Some-clause-accounted g c =
    rw c.between.ensures
    (accounted_written (five_tuple_of c.args.segment.now) c.args.self.now.connections c.in-Some.connection.now
    c.analyze.new.connection (rw c.between.ensures at c.in-Some.ensures.value)
    (c.analyze.ensures.weight ∙ c.accept.ensures.weight))

pub returns-in-Some-clause-weighed : goal.returns-in-Some-clause-weighed
returns-in-Some-clause-weighed g c =
    let s = c.args.segment.now in let old = c.args.self.now.connections in
    let its = c.analyze.new.connection in let e = five_tuple_of s in
    rw c.between.ensures
    (weighed_first g.K.PieceCollector.most_bytes e (with_first e its old) its (others e old.live)
    c.changed_weight.result c.is_some-self.result
    (stands_first e old c.in-Some.connection.now its (rw c.between.ensures at c.in-Some.ensures.value))
    c.changed_weight.ensures c.is_some-self.ensures)

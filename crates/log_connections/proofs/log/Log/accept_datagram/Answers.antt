use Rattle.connections.specs.FiveTuple.{is_five_tuple}
use Rattle.std.specs.Map.{set_value}
use Rattle.log_connections.proofs.WeightLemmas.{weighed_first}
use Rattle.connections.proofs.MemoryLemmas.{accounted_with}
use Rattle.connections.specs.Datagram.{five_tuple_of_datagram}
use Rattle.connections.specs.Table.{with_other, TakesDatagram, others}
use Rattle.log_connections.proofs.LogLemmas.{datagram_received, datagram_lent, written_first}
use Rattle.log_connections.proofs.OtherLemmas.{keeps_other, keeps_put, keeps_same, keeps_then}
use Rattle.log_connections.specs.Analysis.{IsPrepared}
use Rattle.log_connections.specs.Sides.{IsReady}
use Rattle.log_connections.proofs.log.Log.accept_datagram.Goals as goal

pub returns-in_err-accept_datagram-clause-others : goal.returns-in_err-accept_datagram-clause-others
returns-in_err-accept_datagram-clause-others g c =
    keeps_same (five_tuple_of_datagram c.args.datagram.now) c.args.self.now.connections.live
    c.accept_datagram.new.self.live c.in_err-accept_datagram.ensures.err

pub returns-in_err-analyze_from-in-Some-clause-others : goal.returns-in_err-analyze_from-in-Some-clause-others
returns-in_err-analyze_from-in-Some-clause-others g c =
    let e = five_tuple_of_datagram c.args.datagram.now in
    let old = c.args.self.now.connections.live in let mid = c.accept_datagram.new.self in
    let its = c.analyze_from.new.exchange in let put = c.in_ok-accept_datagram.ensures.put in
    rw c.between.ensures
    (keeps_then e old mid.live (with_other e its mid).live
    (keeps_put e old mid.live put.its put.stands) (keeps_other e mid its))

pub returns-in_ok-analyze_from-in-Some-clause-prepared : goal.returns-in_ok-analyze_from-in-Some-clause-prepared
returns-in_ok-analyze_from-in-Some-clause-prepared g c =
    rw c.between.ensures
    (datagram_received (IsPrepared c.args.self.now.arrivals.tunnels c.args.self.now.kept)
    c.args.datagram.now c.args.self.now.connections c.accept_datagram.new.self
    c.in-Some.exchange.now
    c.analyze_from.new.exchange c.in_ok-accept_datagram.ensures.put c.accept_datagram.ensures.closed
    c.in_ok-accept_datagram.ensures.attached
    (rw c.between.ensures at c.in-Some.ensures.value) c.in_ok-analyze_from-in-Some.ensures.prepared)

pub returns-in_ok-analyze_from-in-Some-clause-logged : goal.returns-in_ok-analyze_from-in-Some-clause-logged
returns-in_ok-analyze_from-in-Some-clause-logged g c =
    rw c.between.ensures
    (datagram_received IsReady c.args.datagram.now c.args.self.now.connections c.accept_datagram.new.self
    c.in-Some.exchange.now
    c.analyze_from.new.exchange c.in_ok-accept_datagram.ensures.put c.accept_datagram.ensures.closed
    c.in_ok-accept_datagram.ensures.attached
    (rw c.between.ensures at c.in-Some.ensures.value) c.in_ok-analyze_from-in-Some.ensures.analysis)

pub returns-in_ok-analyze_from-in-Some-clause-others : goal.returns-in_ok-analyze_from-in-Some-clause-others
returns-in_ok-analyze_from-in-Some-clause-others g c =
    let e = five_tuple_of_datagram c.args.datagram.now in
    let old = c.args.self.now.connections.live in let mid = c.accept_datagram.new.self in
    let its = c.analyze_from.new.exchange in let put = c.in_ok-accept_datagram.ensures.put in
    rw c.between.ensures
    (keeps_then e old mid.live (with_other e its mid).live
    (keeps_put e old mid.live put.its put.stands) (keeps_other e mid its))

pub returns-in-None-clause-logged : goal.returns-in-None-clause-logged
returns-in-None-clause-logged g c =
    absurd (datagram_lent c.args.datagram.now c.args.self.now.connections c.accept_datagram.new.self
    c.in_ok-accept_datagram.ensures.put (rw c.between.ensures at c.in-None.ensures.value))

pub returns-in-None-clause-prepared : goal.returns-in-None-clause-prepared
returns-in-None-clause-prepared g c =
    absurd (datagram_lent c.args.datagram.now c.args.self.now.connections c.accept_datagram.new.self
    c.in_ok-accept_datagram.ensures.put (rw c.between.ensures at c.in-None.ensures.value))

pub returns-in-None-clause-others : goal.returns-in-None-clause-others
returns-in-None-clause-others g c =
    absurd (datagram_lent c.args.datagram.now c.args.self.now.connections c.accept_datagram.new.self
    c.in_ok-accept_datagram.ensures.put (rw c.between.ensures at c.in-None.ensures.value))

pub returns-in_err-analyze_from-in-Some-clause-accounted : goal.returns-in_err-analyze_from-in-Some-clause-accounted
returns-in_err-analyze_from-in-Some-clause-accounted g c =
    rw c.between.ensures
    (λ h. accounted_with (five_tuple_of_datagram c.args.datagram.now) c.accept_datagram.new.self
    c.in-Some.exchange.now c.analyze_from.new.exchange (rw c.between.ensures at c.in-Some.ensures.value)
    c.analyze_from.ensures.weight (c.accept_datagram.ensures.accounted h))

pub returns-in_ok-analyze_from-in-Some-clause-accounted : goal.returns-in_ok-analyze_from-in-Some-clause-accounted
returns-in_ok-analyze_from-in-Some-clause-accounted g c =
    rw c.between.ensures
    (λ h. accounted_with (five_tuple_of_datagram c.args.datagram.now) c.accept_datagram.new.self
    c.in-Some.exchange.now c.analyze_from.new.exchange (rw c.between.ensures at c.in-Some.ensures.value)
    c.analyze_from.ensures.weight (c.accept_datagram.ensures.accounted h))

pub returns-in_ok-analyze_from-in-Some-clause-weighed : goal.returns-in_ok-analyze_from-in-Some-clause-weighed
returns-in_ok-analyze_from-in-Some-clause-weighed g c =
    let d = c.args.datagram.now in let old = c.args.self.now.connections in
    let e = five_tuple_of_datagram d in let mid = c.accept_datagram.new.self in
    let its = c.analyze_from.new.exchange in
    let new = record mid { live = set_value (is_five_tuple e) mid.live its } in
    rw c.between.ensures
    (weighed_first g.K.PieceCollector.most_bytes e new its (others e old.live)
    c.changed_weight.result c.is_some-self.result
    (written_first e (TakesDatagram d) old.live mid.live c.in_ok-accept_datagram.ensures.put its)
    c.changed_weight.ensures c.is_some-self.ensures)

pub returns-in-None-clause-weighed : goal.returns-in-None-clause-weighed
returns-in-None-clause-weighed g c =
    absurd (datagram_lent c.args.datagram.now c.args.self.now.connections c.accept_datagram.new.self
    c.in_ok-accept_datagram.ensures.put (rw c.between.ensures at c.in-None.ensures.value))

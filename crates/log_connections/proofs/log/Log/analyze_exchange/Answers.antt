use Rattle.connections.specs.Table.{others, promoting, with_other}
use Rattle.log_connections.proofs.WeightLemmas.{dropped_weight, weighed_first}
use Rattle.connections.proofs.MemoryLemmas.{accounted_with}
use Rattle.std.proofs.Common.{refl, sym, ◌∙◌, ap}
use Rattle.connections.specs.Datagram.{five_tuple_of_datagram}
use Rattle.connections.proofs.TableLemmas.{on_err, written_promoted}
use Rattle.log_connections.proofs.LogLemmas.{another_begun, exchange_received, lent_unchanged, none_damaged, some_damaged}
use Rattle.log_connections.proofs.OtherLemmas.{keeps_other, keeps_promoted}
use Rattle.log_connections.specs.Analysis.{IsPrepared}
use Rattle.log_connections.specs.Sides.{IsReady}
use Rattle.log_connections.proofs.log.Log.analyze_exchange.Goals as goal

pub returns-in_default-clause-delivered : goal.returns-in_default-clause-delivered
returns-in_default-clause-delivered g c =
    none_damaged c.args.datagram.now c.args.self.now.connections
    (rw c.between-five_tuple.ensures at c.in_default.ensures.value)

pub returns-then-is_damaged-clause-delivered : goal.returns-then-is_damaged-clause-delivered
returns-then-is_damaged-clause-delivered g c =
    some_damaged c.args.datagram.now c.args.self.now.connections c.in-Some.exchange.now _
    (rw c.between-five_tuple.ensures at c.in-Some.ensures.value)
    (sym c.is_damaged.ensures ∙ c.if-is_damaged.true)

pub returns-then-is_damaged-clause-others : goal.returns-then-is_damaged-clause-others
returns-then-is_damaged-clause-others g c =
    rw c.between-five_tuple.ensures
    (keeps_other (five_tuple_of_datagram c.args.datagram.now) c.args.self.now.connections
    c.drop_datagram.new.self)

pub returns-then-begins_another-clause-logged : goal.returns-then-begins_another-clause-logged
returns-then-begins_another-clause-logged g c =
    lent_unchanged c.between-five_tuple.result c.args.self.now.connections c.in-Some.exchange.now
    c.in-Some.exchange.now
    c.in-Some.ensures.value refl

pub returns-then-begins_another-clause-delivered : goal.returns-then-begins_another-clause-delivered
returns-then-begins_another-clause-delivered g c = (
  some_damaged c.args.datagram.now c.args.self.now.connections c.in-Some.exchange.now _
      (rw c.between-five_tuple.ensures at c.in-Some.ensures.value)
      (sym c.is_damaged.ensures ∙ c.if-is_damaged.false),
  another_begun c.args.datagram.now c.args.self.now.connections c.in-Some.exchange.now _ _
      c.side_of-side.result (rw c.between-five_tuple.ensures at c.in-Some.ensures.value)
      c.side_of-side.ensures c.if-begins_another.true c.begins_another.ensures,
)

pub returns-then-begins_another-clause-others : goal.returns-then-begins_another-clause-others
returns-then-begins_another-clause-others g c =
    rw c.between-five_tuple.ensures
    (keeps_other (five_tuple_of_datagram c.args.datagram.now) c.args.self.now.connections
    c.in-Some.exchange.now)

pub returns-in_err-analyze_from-clause-others : goal.returns-in_err-analyze_from-clause-others
returns-in_err-analyze_from-clause-others g c =
    rw c.between-five_tuple.ensures
    (keeps_other (five_tuple_of_datagram c.args.datagram.now) c.args.self.now.connections
    c.analyze_from.new.exchange)

pub returns-clause-prepared : goal.returns-clause-prepared
returns-clause-prepared g c =
    rw (c.promote.ensures.promoted, c.between-five_tuple.ensures)
    (exchange_received (IsPrepared c.args.self.now.arrivals.tunnels c.args.self.now.kept)
    c.args.datagram.now c.args.self.now.connections c.in-Some.exchange.now
    c.take_datagram.new.self
    c.analyze_from.new.exchange (rw c.between-five_tuple.ensures at c.in-Some.ensures.value)
    c.take_datagram.ensures.taken c.take_datagram.ensures.attached
    c.in_ok-analyze_from.ensures.prepared)

pub returns-clause-logged : goal.returns-clause-logged
returns-clause-logged g c =
    rw (c.promote.ensures.promoted, c.between-five_tuple.ensures)
    (exchange_received IsReady c.args.datagram.now c.args.self.now.connections c.in-Some.exchange.now
    c.take_datagram.new.self
    c.analyze_from.new.exchange (rw c.between-five_tuple.ensures at c.in-Some.ensures.value)
    c.take_datagram.ensures.taken c.take_datagram.ensures.attached
    c.in_ok-analyze_from.ensures.analysis)

pub returns-clause-delivered : goal.returns-clause-delivered
returns-clause-delivered g c = (
  some_damaged c.args.datagram.now c.args.self.now.connections c.in-Some.exchange.now _
      (rw c.between-five_tuple.ensures at c.in-Some.ensures.value)
      (sym c.is_damaged.ensures ∙ c.if-is_damaged.false),
  another_begun c.args.datagram.now c.args.self.now.connections c.in-Some.exchange.now _ _
      c.side_of-side.result (rw c.between-five_tuple.ensures at c.in-Some.ensures.value)
      c.side_of-side.ensures c.if-begins_another.false c.begins_another.ensures,
)

pub returns-clause-others : goal.returns-clause-others
returns-clause-others g c =
    rw (c.promote.ensures.promoted, c.between-five_tuple.ensures)
    (keeps_promoted (five_tuple_of_datagram c.args.datagram.now) c.args.self.now.connections
    c.in-Some.exchange.now c.analyze_from.new.exchange
    (rw c.between-five_tuple.ensures at c.in-Some.ensures.value))

pub returns-in_err-analyze_from-clause-refused : goal.returns-in_err-analyze_from-clause-refused
returns-in_err-analyze_from-clause-refused g c =
    on_err c.from_residual.result (
      some_damaged c.args.datagram.now c.args.self.now.connections c.in-Some.exchange.now _
          (rw c.between-five_tuple.ensures at c.in-Some.ensures.value)
          (sym c.is_damaged.ensures ∙ c.if-is_damaged.false),
      another_begun c.args.datagram.now c.args.self.now.connections c.in-Some.exchange.now _ _
          c.side_of-side.result (rw c.between-five_tuple.ensures at c.in-Some.ensures.value)
          c.side_of-side.ensures c.if-begins_another.false c.begins_another.ensures,
    )

pub returns-then-is_damaged-clause-accounted : goal.returns-then-is_damaged-clause-accounted
returns-then-is_damaged-clause-accounted g c =
    rw c.between-five_tuple.ensures
    (accounted_with (five_tuple_of_datagram c.args.datagram.now) c.args.self.now.connections c.in-Some.exchange.now
    c.drop_datagram.new.self (rw c.between-five_tuple.ensures at c.in-Some.ensures.value)
    (ap (λ x. x.weight) c.drop_datagram.ensures ∙ dropped_weight _ _ c.in-Some.exchange.now))

pub returns-then-begins_another-clause-accounted : goal.returns-then-begins_another-clause-accounted
returns-then-begins_another-clause-accounted g c =
    rw c.between-five_tuple.ensures
    (accounted_with (five_tuple_of_datagram c.args.datagram.now) c.args.self.now.connections c.in-Some.exchange.now
    c.in-Some.exchange.now (rw c.between-five_tuple.ensures at c.in-Some.ensures.value) refl)

pub returns-in_err-analyze_from-clause-accounted : goal.returns-in_err-analyze_from-clause-accounted
returns-in_err-analyze_from-clause-accounted g c =
    rw c.between-five_tuple.ensures
    (accounted_with (five_tuple_of_datagram c.args.datagram.now) c.args.self.now.connections c.in-Some.exchange.now
    c.analyze_from.new.exchange (rw c.between-five_tuple.ensures at c.in-Some.ensures.value)
    (c.analyze_from.ensures.weight ∙ c.take_datagram.ensures.weight))

pub returns-clause-accounted : goal.returns-clause-accounted
returns-clause-accounted g c =
    λ h. c.promote.ensures.accounted
    (rw c.between-five_tuple.ensures
    (accounted_with (five_tuple_of_datagram c.args.datagram.now) c.args.self.now.connections c.in-Some.exchange.now
    c.analyze_from.new.exchange (rw c.between-five_tuple.ensures at c.in-Some.ensures.value)
    (c.analyze_from.ensures.weight ∙ c.take_datagram.ensures.weight) h))

pub returns-clause-weighed : goal.returns-clause-weighed
returns-clause-weighed g c =
    let e = five_tuple_of_datagram c.args.datagram.now in
    let old = c.args.self.now.connections in let its = c.analyze_from.new.exchange in
    let new = promoting e (with_other e its old) in
    rw (c.promote.ensures.promoted, c.between-five_tuple.ensures)
    (weighed_first g.K.PieceCollector.most_bytes e new its (others e old.live)
    c.changed_weight.result c.is_some-self.result
    (written_promoted e old.live c.in-Some.exchange.now its
    (sym (rw c.between-five_tuple.ensures at c.in-Some.ensures.value)))
    c.changed_weight.ensures c.is_some-self.ensures)

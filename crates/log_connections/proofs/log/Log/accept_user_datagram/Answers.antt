use Rattle.connections.specs.Table.{at}
use Rattle.connections.specs.Connection.{is_datagram_damaged}
use Rattle.log_connections.proofs.WeightLemmas.{alone_counts, damaged_weighs, datagram_counts, datagram_weighs, none_open, ok_more}
use Rattle.std.proofs.Common.{refl, subst, ap, sym, ◌∙◌, true, false, rules}
use Rattle.std.proofs.lemmas.Result.{IfErr-weaker, IfOk-weaker}
use Rattle.std.specs.Option.{option_map}
use Rattle.connections.specs.Datagram.{five_tuple_of_datagram}
use Rattle.connections.specs.Segment.{is_refused}
use Rattle.log_connections.specs.Log.{BeginsUnless, LogsInAnother, RefusesInNext, is_damaged_in}
use Rattle.log_connections.specs.declared.exchanges.Delivery.TheVariants as delivery
use Rattle.log_connections.proofs.PacketLemmas.{given}
use Rattle.log_connections.proofs.OtherLemmas.{keeps_then}
use Rattle.log_connections.proofs.log.Log.accept_user_datagram.Goals as goal

pub returns-in-Received-clause-accepted : goal.returns-in-Received-clause-accepted
returns-in-Received-clause-accepted g c = record {
  way = delivery.Received;
  is = rw c.in-Received.is at c.in_ok-analyze_exchange.ensures.delivered;
  accepts = (rw c.in-Received.is at c.in_ok-analyze_exchange.ensures.logged, refl);
}

pub returns-in-Damaged-clause-accepted : goal.returns-in-Damaged-clause-accepted
returns-in-Damaged-clause-accepted g c = record {
  way = delivery.Damaged;
  is = rw c.in-Damaged.is at c.in_ok-analyze_exchange.ensures.delivered;
  accepts = (rw c.in-Damaged.is at c.in_ok-analyze_exchange.ensures.logged, refl);
}

pub returns-in_ok-begin_exchange-in-NoneOpen-clause-accepted : goal.returns-in_ok-begin_exchange-in-NoneOpen-clause-accepted
returns-in_ok-begin_exchange-in-NoneOpen-clause-accepted g c = record {
  way = delivery.NoneOpen;
  is = rw c.in-NoneOpen.is at c.in_ok-analyze_exchange.ensures.delivered;
  accepts = (
    subst
        (λ t. BeginsUnless (is_refused c.args.datagram.now.checksum) c.args.datagram.now t
        c.begin_exchange.new.self.connections)
        (rw c.in-NoneOpen.is at c.in_ok-analyze_exchange.ensures.logged)
        c.in_ok-begin_exchange-in-NoneOpen.ensures.begun,
    refl,
  );
}

pub returns-in_err-begin_exchange-in-NoneOpen-clause-others : goal.returns-in_err-begin_exchange-in-NoneOpen-clause-others
returns-in_err-begin_exchange-in-NoneOpen-clause-others g c =
    keeps_then (five_tuple_of_datagram c.args.datagram.now) c.args.self.now.connections.live
    c.analyze_exchange.new.self.connections.live c.begin_exchange.new.self.connections.live
    c.analyze_exchange.ensures.others c.begin_exchange.ensures.others

pub returns-in_ok-begin_exchange-in-NoneOpen-clause-others : goal.returns-in_ok-begin_exchange-in-NoneOpen-clause-others
returns-in_ok-begin_exchange-in-NoneOpen-clause-others g c =
    keeps_then (five_tuple_of_datagram c.args.datagram.now) c.args.self.now.connections.live
    c.analyze_exchange.new.self.connections.live c.begin_exchange.new.self.connections.live
    c.analyze_exchange.ensures.others c.begin_exchange.ensures.others

pub returns-in-BeginsAnother-clause-accepted : goal.returns-in-BeginsAnother-clause-accepted
returns-in-BeginsAnother-clause-accepted g c =
    IfOk-weaker c.replace_exchange.result _ _
    (λ over logs. record {
      way = delivery.BeginsAnother;
      is = rw c.in-BeginsAnother.is at c.in_ok-analyze_exchange.ensures.delivered;
      accepts = subst
          (λ t. LogsInAnother c.args.datagram.now t c.replace_exchange.new.self.connections
          (option_map (λ b. b.value) over))
          (rw c.in-BeginsAnother.is at c.in_ok-analyze_exchange.ensures.logged) logs;
    }) c.replace_exchange.ensures.accepted

pub returns-in-BeginsAnother-clause-refused : goal.returns-in-BeginsAnother-clause-refused
returns-in-BeginsAnother-clause-refused g c =
    IfErr-weaker c.replace_exchange.result _ _
    (λ r refuses. record {
      way = delivery.BeginsAnother;
      is = rw c.in-BeginsAnother.is at c.in_ok-analyze_exchange.ensures.delivered;
      refuses = subst
          (λ t. RefusesInNext c.args.datagram.now t c.replace_exchange.new.self.connections
          (option_map (λ b. b.value) r.over))
          (rw c.in-BeginsAnother.is at c.in_ok-analyze_exchange.ensures.logged) refuses;
    }) c.replace_exchange.ensures.refused

pub returns-in-BeginsAnother-clause-others : goal.returns-in-BeginsAnother-clause-others
returns-in-BeginsAnother-clause-others g c =
    keeps_then (five_tuple_of_datagram c.args.datagram.now) c.args.self.now.connections.live
    c.analyze_exchange.new.self.connections.live c.replace_exchange.new.self.connections.live
    c.analyze_exchange.ensures.others c.replace_exchange.ensures.others

pub returns-in_err-analyze_exchange-clause-refused : goal.returns-in_err-analyze_exchange-clause-refused
returns-in_err-analyze_exchange-clause-refused g c =
    given c.from_residual.result _ _ c.from_residual.ensures.1 (record {
      way = delivery.Received;
      is = c.in_err-analyze_exchange.ensures.refused;
      refuses = refl;
    })

pub returns-in_err-begin_exchange-in-NoneOpen-clause-refused : goal.returns-in_err-begin_exchange-in-NoneOpen-clause-refused
returns-in_err-begin_exchange-in-NoneOpen-clause-refused g c =
    given c.from_residual-in_err-begin_exchange-in-NoneOpen.result _ _
    c.from_residual-in_err-begin_exchange-in-NoneOpen.ensures.1 (record {
      way = delivery.NoneOpen;
      is = rw c.in-NoneOpen.is at c.in_ok-analyze_exchange.ensures.delivered;
      refuses = refl;
    })

pub returns-in-Received-clause-weighed : goal.returns-in-Received-clause-weighed
returns-in-Received-clause-weighed g c =
    datagram_weighs _ (is_damaged_in c.args.datagram.now c.args.self.now.connections)
    (rw c.in-Received.is at c.in_ok-analyze_exchange.ensures.weighed)

pub returns-in-Damaged-clause-weighed : goal.returns-in-Damaged-clause-weighed
returns-in-Damaged-clause-weighed g c =
    damaged_weighs _ (is_damaged_in c.args.datagram.now c.args.self.now.connections)
    (rw c.in-Damaged.is at c.in_ok-analyze_exchange.ensures.delivered)

pub returns-in_ok-begin_exchange-in-NoneOpen-clause-weighed : goal.returns-in_ok-begin_exchange-in-NoneOpen-clause-weighed
returns-in_ok-begin_exchange-in-NoneOpen-clause-weighed g c =
    datagram_weighs _ (is_damaged_in c.args.datagram.now c.args.self.now.connections)
    (c.in_ok-begin_exchange-in-NoneOpen.ensures.weighed
    (ap (λ t. at (five_tuple_of_datagram c.args.datagram.now) t.live)
    (rw c.in-NoneOpen.is at c.in_ok-analyze_exchange.ensures.logged)
    ∙ sym (none_open (is_datagram_damaged c.args.datagram.now)
    (at (five_tuple_of_datagram c.args.datagram.now) c.args.self.now.connections.live)
    (rw c.in-NoneOpen.is at c.in_ok-analyze_exchange.ensures.delivered))))

pub returns-in-BeginsAnother-clause-weighed : goal.returns-in-BeginsAnother-clause-weighed
returns-in-BeginsAnother-clause-weighed g c =
    ok_more c.replace_exchange.result _ _ (λ w. datagram_weighs _ (is_damaged_in c.args.datagram.now c.args.self.now.connections) w)
    c.replace_exchange.ensures.weighed

pub returns-in_err-begin_exchange-in-NoneOpen-clause-accounted : goal.returns-in_err-begin_exchange-in-NoneOpen-clause-accounted
returns-in_err-begin_exchange-in-NoneOpen-clause-accounted g c =
    λ h. c.begin_exchange.ensures.accounted (c.analyze_exchange.ensures.accounted h)

pub returns-in_ok-begin_exchange-in-NoneOpen-clause-accounted : goal.returns-in_ok-begin_exchange-in-NoneOpen-clause-accounted
returns-in_ok-begin_exchange-in-NoneOpen-clause-accounted g c =
    λ h. c.begin_exchange.ensures.accounted (c.analyze_exchange.ensures.accounted h)

pub returns-in-BeginsAnother-clause-accounted : goal.returns-in-BeginsAnother-clause-accounted
returns-in-BeginsAnother-clause-accounted g c =
    λ h. c.replace_exchange.ensures.accounted (c.analyze_exchange.ensures.accounted h)

pub returns-in_err-analyze_exchange-clause-counted : goal.returns-in_err-analyze_exchange-clause-counted
returns-in_err-analyze_exchange-clause-counted g c =
    datagram_counts (is_damaged_in c.args.datagram.now c.args.self.now.connections) false
    (is_refused c.args.datagram.now.checksum) c.args.self.now.arrivals c.analyze_exchange.new.self.arrivals
    c.analyze_exchange.new.self.arrivals c.in_err-analyze_exchange.ensures.refused.0
    c.analyze_exchange.ensures.arrivals refl

pub returns-in-Received-clause-counted : goal.returns-in-Received-clause-counted
returns-in-Received-clause-counted g c =
    datagram_counts (is_damaged_in c.args.datagram.now c.args.self.now.connections) false
    (is_refused c.args.datagram.now.checksum) c.args.self.now.arrivals c.analyze_exchange.new.self.arrivals
    c.analyze_exchange.new.self.arrivals
    (rw c.in-Received.is at c.in_ok-analyze_exchange.ensures.delivered).0
    c.analyze_exchange.ensures.arrivals refl

pub returns-in-Damaged-clause-counted : goal.returns-in-Damaged-clause-counted
returns-in-Damaged-clause-counted g c =
    datagram_counts (is_damaged_in c.args.datagram.now c.args.self.now.connections) true
    (is_refused c.args.datagram.now.checksum) c.args.self.now.arrivals c.analyze_exchange.new.self.arrivals
    _ (rw c.in-Damaged.is at c.in_ok-analyze_exchange.ensures.delivered)
    c.analyze_exchange.ensures.arrivals (search (rules))

pub returns-in_err-begin_exchange-in-NoneOpen-clause-counted : goal.returns-in_err-begin_exchange-in-NoneOpen-clause-counted
returns-in_err-begin_exchange-in-NoneOpen-clause-counted g c =
    alone_counts (is_damaged_in c.args.datagram.now c.args.self.now.connections)
    (is_refused c.args.datagram.now.checksum) c.args.self.now.arrivals c.analyze_exchange.new.self.arrivals
    c.begin_exchange.new.self.arrivals
    (rw c.in-NoneOpen.is at c.in_ok-analyze_exchange.ensures.delivered)
    c.analyze_exchange.ensures.arrivals c.begin_exchange.ensures.counted

pub returns-in_ok-begin_exchange-in-NoneOpen-clause-counted : goal.returns-in_ok-begin_exchange-in-NoneOpen-clause-counted
returns-in_ok-begin_exchange-in-NoneOpen-clause-counted g c =
    alone_counts (is_damaged_in c.args.datagram.now c.args.self.now.connections)
    (is_refused c.args.datagram.now.checksum) c.args.self.now.arrivals c.analyze_exchange.new.self.arrivals
    c.begin_exchange.new.self.arrivals
    (rw c.in-NoneOpen.is at c.in_ok-analyze_exchange.ensures.delivered)
    c.analyze_exchange.ensures.arrivals c.begin_exchange.ensures.counted

pub returns-in-BeginsAnother-clause-counted : goal.returns-in-BeginsAnother-clause-counted
returns-in-BeginsAnother-clause-counted g c =
    datagram_counts (is_damaged_in c.args.datagram.now c.args.self.now.connections) false
    (is_refused c.args.datagram.now.checksum) c.args.self.now.arrivals c.analyze_exchange.new.self.arrivals
    c.replace_exchange.new.self.arrivals
    (rw c.in-BeginsAnother.is at c.in_ok-analyze_exchange.ensures.delivered).0
    c.analyze_exchange.ensures.arrivals c.replace_exchange.ensures.arrivals

use Rattle.log_connections.proofs.WeightLemmas.{settled_weighed, weighs_more}
use Rattle.std.specs.Option.{option_map}
use Rattle.arrivals.specs.Arrival.{five_tuple_in}
use Rattle.log_connections.proofs.OtherLemmas.{keeps_settled, keeps_then}
use Rattle.log_connections.proofs.log.Log.accept.Goals as goal

pub returns-clause-accepted : goal.returns-clause-accepted
returns-clause-accepted g c = record {
  mid = c.analyze_arrival.new.self.connections;
  takes = c.in_ok-over.ensures.taken;
  is_due = c.analyze_arrival.new.self.is_unsettled;
  settles = c.settle.ensures.settled;
  weighs = weighs_more _ _
      (settled_weighed g.K.PieceCollector.most_bytes (five_tuple_in c.args.arrival.now)
      c.analyze_arrival.new.self.is_unsettled c.analyze_arrival.new.self.connections
      c.settle.new.self.connections c.settle.ensures.settled) c.args.arrival.now c.args.self.now.connections
      (option_map (λ b. b.value) c.in_ok-over.over) c.in_ok-over.ensures.weighed;
}

pub returns-clause-others : goal.returns-clause-others
returns-clause-others g c =
    let e = five_tuple_in c.args.arrival.now in
    let mid = c.analyze_arrival.new.self.connections in
    keeps_then e c.args.self.now.connections.live mid.live c.settle.new.self.connections.live
    c.analyze_arrival.ensures.others
    (keeps_settled g.K.PieceCollector.most_bytes e c.analyze_arrival.new.self.is_unsettled mid c.settle.new.self.connections c.settle.ensures.settled)

pub returns-clause-accounted : goal.returns-clause-accounted
returns-clause-accounted g c =
    λ h. c.settle.ensures.accounted (c.analyze_arrival.ensures.accounted h)

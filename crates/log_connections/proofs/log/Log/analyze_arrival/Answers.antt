use Rattle.std.proofs.Common.{subst, sym}
use Rattle.std.specs.Option.{option_map}
use Rattle.std.specs.Prelude.{IfOk}
use Rattle.arrivals.specs.Arrival.{five_tuple_in}
use Rattle.log_connections.specs.Log.{IsWeighedUnless, WhereWeighed}
use Rattle.log_connections.proofs.log.Log.analyze_arrival.Goals as goal

pub returns-in-Segment-clause-weighed : goal.returns-in-Segment-clause-weighed
returns-in-Segment-clause-weighed g c =
    let new = c.accept_segment.new.self in
    subst
    (λ a. IfOk c.accept_segment.result (λ over. WhereWeighed a c.args.self.now.connections
    (option_map (λ b. b.value) over)
    (IsWeighedUnless g.K.PieceCollector.most_bytes new.is_unsettled (five_tuple_in a)
    new.connections))) (sym c.in-Segment.is) c.accept_segment.ensures.weighed

use Rattle.std.specs.Option.{option_map}
use Rattle.log_connections.specs.Log.{IsWeighedUnless}
use Rattle.log_connections.proofs.WeightLemmas.{stays_after}
use Rattle.std.proofs.lemmas.Result.{IfOk-weaker}
use Rattle.connections.specs.Segment.{five_tuple_of}
use Rattle.log_connections.proofs.LogLemmas.{takes_in}
use Rattle.log_connections.proofs.OtherLemmas.{keeps_then}
use Rattle.log_connections.proofs.log.Log.take_segment.Goals as goal

pub returns-clause-taken : goal.returns-clause-taken
returns-clause-taken g c =
    IfOk-weaker c.end_analyzed.result _ _
    (λ over ends. takes_in c.in_ok-analysis.analysis c.args.segment.now c.args.self.now.connections
    c.analyze_segment.new.self.connections c.end_analyzed.new.self.connections _
    c.in_ok-analysis.ensures.belongs c.in_ok-analysis.ensures.logged c.in_ok-analysis.ensures.closed ends)
    c.end_analyzed.ensures.ended

pub returns-clause-others : goal.returns-clause-others
returns-clause-others g c =
    keeps_then (five_tuple_of c.args.segment.now) c.args.self.now.connections.live
    c.analyze_segment.new.self.connections.live c.end_analyzed.new.self.connections.live
    c.analyze_segment.ensures.others c.end_analyzed.ensures.others

pub returns-clause-accounted : goal.returns-clause-accounted
returns-clause-accounted g c =
    λ h. c.end_analyzed.ensures.accounted (c.analyze_segment.ensures.accounted h)

pub returns-clause-weighed : goal.returns-clause-weighed
returns-clause-weighed g c =
    rw c.end_analyzed.ensures.unsettled
    (IfOk-weaker c.end_analyzed.result _ _
    (λ over ends. stays_after
    (IsWeighedUnless g.K.PieceCollector.most_bytes c.analyze_segment.new.self.is_unsettled
    (five_tuple_of c.args.segment.now)) c.in_ok-analysis.analysis c.args.segment.now
    c.analyze_segment.new.self.connections c.end_analyzed.new.self.connections
    (option_map (λ b. b.value) over) ends
    c.in_ok-analysis.ensures.weighed)
    c.end_analyzed.ensures.ended)

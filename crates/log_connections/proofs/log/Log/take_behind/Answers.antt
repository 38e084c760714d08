use Rattle.std.proofs.lemmas.Result.{IfOk-weaker}
use Rattle.connections.specs.Segment.{five_tuple_of}
use Rattle.log_connections.proofs.OtherLemmas.{keeps_then}
use Rattle.log_connections.proofs.log.Log.take_behind.Goals as goal

pub returns-clause-taken : goal.returns-clause-taken
returns-clause-taken g c =
    rw c.if-not-acknowledges.false
    (IfOk-weaker c.take_segment-2.result _ _
    (λ over takes. (
      c.analyze_acknowledged.new.self.connections,
      c.in_ok-analyze_acknowledged.ensures.analysis,
      takes,
    )) c.take_segment-2.ensures.taken)

pub returns-clause-others : goal.returns-clause-others
returns-clause-others g c =
    keeps_then (five_tuple_of c.args.segment.now) c.args.self.now.connections.live
    c.analyze_acknowledged.new.self.connections.live c.take_segment-2.new.self.connections.live
    c.analyze_acknowledged.ensures.others c.take_segment-2.ensures.others

pub returns-clause-accounted : goal.returns-clause-accounted
returns-clause-accounted g c =
    λ h. c.take_segment-2.ensures.accounted (c.analyze_acknowledged.ensures.accounted h)

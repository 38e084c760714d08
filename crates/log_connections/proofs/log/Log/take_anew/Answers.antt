use Rattle.std.proofs.lemmas.Result.{IfOk-weaker}
use Rattle.connections.specs.Segment.{five_tuple_of}
use Rattle.connections.specs.Table.{at}
use Rattle.log_connections.proofs.OtherLemmas.{keeps_anew, keeps_then}
use Rattle.log_connections.proofs.log.Log.take_anew.Goals as goal

pub returns-clause-taken : goal.returns-clause-taken
returns-clause-taken g c =
    IfOk-weaker c.take_segment.result _ _
    (λ over takes. (c.restart.new.self, c.restart.ensures.restarts, takes, c.restart.ensures.attached))
    c.take_segment.ensures.taken

pub returns-clause-others : goal.returns-clause-others
returns-clause-others g c =
    let s = c.args.segment.now in let old = c.args.self.now.connections in
    keeps_then (five_tuple_of s) old.live c.restart.new.self.live
    c.take_segment.new.self.connections.live
    (keeps_anew (five_tuple_of s) s.time (at (five_tuple_of s) old.live) old c.restart.new.self
    c.restart.ensures.restarts)
    c.take_segment.ensures.others

pub returns-clause-accounted : goal.returns-clause-accounted
returns-clause-accounted g c =
    λ h. c.take_segment.ensures.accounted (c.restart.ensures.accounted h)

use Rattle.connections.specs.Connection.{dropping, without_earlier}
use Rattle.connections.specs.Segment.{five_tuple_of}
use Rattle.connections.specs.Table.{at, with_dropped_segment, without_earlier_syn}
use Rattle.log_connections.proofs.OtherLemmas.{keeps_changed, keeps_either}
use Rattle.log_connections.proofs.log.Log.drop_segment.Goals as goal

pub returns-clause-others : goal.returns-clause-others
returns-clause-others g c =
    let s = c.args.segment.now in let old = c.args.self.now.connections in
    let e = five_tuple_of s in
    keeps_either e c.drop_segment.result old (with_dropped_segment c.args.reason s old)
    (without_earlier_syn c.args.reason s old) c.drop_segment.new.self
    (keeps_changed e (dropping c.args.reason s) (at e old.live) old)
    (keeps_changed e (without_earlier c.args.reason s) (at e old.live) old)
    (rw c.count_dropped.ensures at c.drop_segment.ensures.counted)
    (rw c.count_dropped.ensures at c.drop_segment.ensures.err)

pub returns-clause-accounted : goal.returns-clause-accounted
returns-clause-accounted g c =
    rw c.count_dropped.ensures at c.drop_segment.ensures.accounted

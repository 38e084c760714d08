use Rattle.std.proofs.Common.{refl}
use Rattle.connections.specs.Connection.{with_waiting}
use Rattle.connections.specs.Segment.{five_tuple_of}
use Rattle.connections.specs.Table.{at, with_waiting_segment}
use Rattle.log_connections.proofs.OtherLemmas.{keeps_changed, keeps_either, keeps_same}
use Rattle.log_connections.proofs.log.Log.keep_waiting.Goals as goal

pub returns-clause-others : goal.returns-clause-others
returns-clause-others g c =
    let s = c.args.segment.now in let old = c.args.self.now.connections in
    let e = five_tuple_of s in
    keeps_either e c.wait.result old (with_waiting_segment c.args.reason s old) old c.wait.new.self
    (keeps_changed e (with_waiting c.args.reason s) (at e old.live) old)
    (keeps_same e old.live old.live refl)
    (rw c.count_dropped.ensures at c.wait.ensures.waits)
    (rw c.count_dropped.ensures at c.wait.ensures.err)

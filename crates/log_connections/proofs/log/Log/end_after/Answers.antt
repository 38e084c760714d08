use Rattle.std.proofs.Common.{[], ◌++◌}
use Rattle.std.specs.Option.{option_map}
use Rattle.std.proofs.lemmas.Result.{IfErr-weaker, IfOk-weaker}
use Rattle.log_connections.proofs.FoundLemmas.{counted_both}
use Rattle.log_connections.proofs.SinkLemmas.{adds_still}
use Rattle.log_connections.specs.Sink.{as_list, behind_replaced}
use Rattle.log_connections.proofs.log.Log.end_after.Goals as goal

pub returns-clause-stopped : goal.returns-clause-stopped
returns-clause-stopped g c =
    IfErr-weaker c.end_refused.result _ _
    (λ error stops. behind_replaced (g.S.Sink.received c.end_removed.new.sink)
    c.in_ok-end_removed.ensures.received stops)
    (rw c.in_ok-end_removed.ensures.same at c.end_refused.ensures.stopped)

pub returns-clause-accounted : goal.returns-clause-accounted
returns-clause-accounted g c =
    rw c.in_ok-end_removed.ensures.same at c.end_refused.ensures.accounted

pub returns-clause-ended : goal.returns-clause-ended
returns-clause-ended g c =
    IfOk-weaker c.end_refused.result _ _
    (λ _ ended. (
      (g.S.Sink.received c.end_removed.new.sink, c.in_ok-end_removed.ensures.received, ended.0),
      counted_both (as_list (option_map (λ b. b.value) c.args.over))
          (as_list ended.0.own ++ as_list ended.0.oldest) c.args.self.now.arrivals.counts
          c.end_removed.new.self.arrivals.counts c.end_refused.new.self.arrivals.counts
          c.end_removed.ensures.counted ended.1,
    ))
    (rw c.in_ok-end_removed.ensures.same at c.end_refused.ensures.ended)

pub returns-clause-lent : goal.returns-clause-lent
returns-clause-lent g c =
    adds_still (g.S.Sink.lent c.args.sink.now) (g.S.Sink.lent c.end_removed.new.sink)
    (g.S.Sink.lent c.end_refused.new.sink) [] c.end_removed.ensures.lent c.end_refused.ensures.lent

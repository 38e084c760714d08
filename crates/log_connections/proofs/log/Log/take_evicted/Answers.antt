use Rattle.log_connections.proofs.WeightLemmas.{fits_still}
use Rattle.log_connections.proofs.SinkLemmas.{ends_evicted}
use Rattle.log_connections.proofs.log.Log.take_evicted.Goals as goal

pub returns-clause-evicted : goal.returns-clause-evicted
returns-clause-evicted g c =
    rw c.end_early.ensures.connections
    (ends_evicted (λ b. b.value) c.args.self.now.connections c.take_evicted-taken.new.self
    c.args.self.now.memory c.take_evicted-taken.result c.end_early.result
    c.take_evicted-taken.ensures.taken c.take_evicted-taken.ensures.evicted
    c.take_evicted-taken.ensures.none c.take_evicted-taken.ensures.within c.end_early.ensures.ended)

pub returns-then-not-is_over_limit-clause-closed : goal.returns-then-not-is_over_limit-clause-closed
returns-then-not-is_over_limit-clause-closed g c =
    fits_still c.args.self.now.memory c.args.self.now.connections c.is_over_limit.result
    c.if-not-is_over_limit.true c.is_over_limit.ensures

pub returns-clause-closed : goal.returns-clause-closed
returns-clause-closed g c =
    rw c.end_early.ensures.connections c.take_evicted-taken.ensures.closed

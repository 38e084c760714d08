use Rattle.std.proofs.Common.{true}
use Rattle.log_connections.proofs.SinkLemmas.{ends_last}
use Rattle.log_connections.proofs.log.Log.take_oldest.Goals as goal

pub returns-clause-oldest : goal.returns-clause-oldest
returns-clause-oldest g c =
    rw c.end_early.ensures.connections
    (ends_last (λ b. b.value) c.args.self.now.connections c.take_remaining-taken.new.self
    true c.take_remaining-taken.result c.end_early.result c.take_remaining-taken.ensures.taken
    c.take_remaining-taken.ensures.none c.take_remaining-taken.ensures.same
    c.end_early.ensures.ended)

pub returns-clause-accounted : goal.returns-clause-accounted
returns-clause-accounted g c =
    rw c.end_early.ensures.connections c.take_remaining-taken.ensures.accounted

use Rattle.std.proofs.Common.{false}
use Rattle.log_connections.proofs.SinkLemmas.{ends_last}
use Rattle.log_connections.proofs.log.Log.take_remaining.Goals as goal

pub returns-clause-last : goal.returns-clause-last
returns-clause-last g c =
    rw c.with_last.ensures.connections
    (ends_last (λ b. b.value) c.args.self.now.connections c.take_remaining-taken.new.self
    false c.take_remaining-taken.result c.with_last.result c.take_remaining-taken.ensures.taken
    c.take_remaining-taken.ensures.none c.take_remaining-taken.ensures.same
    c.with_last.ensures.ended)

pub returns-clause-accounted : goal.returns-clause-accounted
returns-clause-accounted g c =
    rw c.with_last.ensures.connections c.take_remaining-taken.ensures.accounted

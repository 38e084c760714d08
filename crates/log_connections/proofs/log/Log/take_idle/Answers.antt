use Rattle.log_connections.proofs.SinkLemmas.{ends_idle}
use Rattle.log_connections.proofs.log.Log.take_idle.Goals as goal

pub returns-clause-idle : goal.returns-clause-idle
returns-clause-idle g c =
    rw c.with_last.ensures.connections
    (ends_idle (λ b. b.value) c.args.self.now.connections c.take_idle-taken.new.self c.args.time
    c.take_idle-taken.result c.with_last.result c.take_idle-taken.ensures.taken
    c.take_idle-taken.ensures.none c.with_last.ensures.ended)

pub returns-clause-accounted : goal.returns-clause-accounted
returns-clause-accounted g c =
    rw c.with_last.ensures.connections c.take_idle-taken.ensures.accounted

pub returns-clause-forgotten : goal.returns-clause-forgotten
returns-clause-forgotten g c =
    rw c.with_last.ensures.connections c.take_idle-taken.ensures.closed

pub returns-clause-none_to_forget : goal.returns-clause-none_to_forget
returns-clause-none_to_forget g c =
    rw c.with_last.ensures.connections c.take_idle-taken.ensures.none_to_forget

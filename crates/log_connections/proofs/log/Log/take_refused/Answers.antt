use Rattle.log_connections.proofs.log.Log.take_refused.Goals as goal

pub returns-clause-accounted : goal.returns-clause-accounted
returns-clause-accounted g c =
    rw c.end_early.ensures.connections c.take-taken.ensures.accounted

use Rattle.log_connections.proofs.log.Log.with_last.Goals as goal

pub returns-clause-ended : goal.returns-clause-ended
returns-clause-ended g c =
    rw c.in_ok-over.was (rw c.deref_mut.ensures.value at c.analyze_removed.ensures.ended)

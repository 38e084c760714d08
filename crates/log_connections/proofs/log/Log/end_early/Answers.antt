use Rattle.log_connections.proofs.SinkLemmas.{ended_early_as}
use Rattle.log_connections.proofs.log.Log.end_early.Goals as goal

pub returns-clause-ended : goal.returns-clause-ended
returns-clause-ended g c =
    ended_early_as (λ b. b.value) c.args.taken c.in_ok-over.over.value c.mark_early.new.over
    (rw c.in_ok-over.was at c.with_last.ensures.ended)
    (rw c.deref_mut.ensures.value at c.mark_early.ensures)

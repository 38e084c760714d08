use Rattle.connections.proofs.StreamLemmas.{accepted, begun_at_number, forgotten_number, noted_number, not_skipped_number, skipped_number, stopped_number, urgent_number}
use Rattle.connections.proofs.laws.the_next_number_is_that_of_what_is_held.Goals as goal

pub returns-clause-accepted : goal.returns-clause-accepted
returns-clause-accepted c = accepted

pub returns-clause-noted : goal.returns-clause-noted
returns-clause-noted c = noted_number

pub returns-clause-urgent : goal.returns-clause-urgent
returns-clause-urgent c = urgent_number

pub returns-clause-forgotten : goal.returns-clause-forgotten
returns-clause-forgotten c = forgotten_number

pub returns-clause-stopped : goal.returns-clause-stopped
returns-clause-stopped c = stopped_number

pub returns-clause-begun : goal.returns-clause-begun
returns-clause-begun c = begun_at_number

pub returns-clause-skipped : goal.returns-clause-skipped
returns-clause-skipped c = skipped_number

pub returns-clause-not_skipped : goal.returns-clause-not_skipped
returns-clause-not_skipped c = not_skipped_number

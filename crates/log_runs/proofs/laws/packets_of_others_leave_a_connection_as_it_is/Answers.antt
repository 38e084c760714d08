use Rattle.log_runs.proofs.StaysLemmas.{each_stays}
use Rattle.log_runs.proofs.laws.packets_of_others_leave_a_connection_as_it_is.Goals as goal

pub returns : goal.returns
returns g c = λ M limit packets reader read old new before after handles e others.
    each_stays M e handles others

use Rattle.arrivals.specs.Arrival.{time_of}
use Rattle.log_runs.proofs.StaysLemmas.{not_idle_stays}
use Rattle.log_runs.proofs.laws.only_idle_connections_time_out.Goals as goal

pub returns : goal.returns
returns g c = λ M a limit old new before after processes e connection found late few.
    (not_idle_stays e connection (time_of a) processes.idle.ended found late few).0

use Rattle.log_runs.proofs.RunLemmas.{run_count}
use Rattle.log_runs.proofs.laws.each_connection_comes_out_once.Goals as goal

pub returns : goal.returns
returns g c = λ M limit packets reader old new before after run e held.
    run_count M e limit packets reader old new before after run held

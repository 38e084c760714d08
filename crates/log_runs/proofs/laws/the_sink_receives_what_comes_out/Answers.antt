use Rattle.log_runs.proofs.RunLemmas.{run_received}
use Rattle.log_runs.proofs.laws.the_sink_receives_what_comes_out.Goals as goal

pub returns : goal.returns
returns g c = λ M limit packets reader old new before after run.
    run_received M limit packets reader old new before after run

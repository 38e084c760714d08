use Rattle.log_runs.proofs.OthersLemmas.{others_stay}
use Rattle.log_runs.proofs.laws.arrivals_change_only_their_own_connection.Goals as goal

pub returns : goal.returns
returns g c = λ M a old new over accepts. others_stay M a old new over accepts

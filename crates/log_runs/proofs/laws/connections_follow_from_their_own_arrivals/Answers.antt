use Rattle.log_runs.proofs.SharingLemmas.{same_views}
use Rattle.log_runs.proofs.laws.connections_follow_from_their_own_arrivals.Goals as goal

pub returns : goal.returns
returns g c = λ b M one other e alike. same_views b M one other e alike

use Rattle.log_runs.proofs.DroppedLemmas.{dropped}
use Rattle.log_runs.proofs.laws.dropped_arrivals_change_no_streams.Goals as goal

pub returns : goal.returns
returns g c = λ M a old new over accepts h. dropped M a old new over accepts h

use Rattle.arrivals.specs.Arrival.{time_of}
use Rattle.log_runs.proofs.SharingLemmas.{in_order_behind, none_is_idle, not_late}
use Rattle.log_runs.proofs.laws.connections_stay_in_the_order_of_their_packets.Goals as goal

pub returns-clause-order : goal.returns-clause-order
returns-clause-order g c = λ M a limit old new before after processes time room le distinct ordered.
    in_order_behind processes room time le distinct ordered

pub returns-clause-idle : goal.returns-clause-idle
returns-clause-idle g c = λ M a limit old new before after processes time distinct ordered e its found.
    not_late (time_of a) its.last_time
    (none_is_idle processes time distinct ordered e its found)

use Rattle.log_runs.proofs.ShareLemmas.{each_read, own_read}
use Rattle.log_runs.proofs.laws.parts_hand_on_their_own_arrivals.Goals as goal

pub returns-clause-own : goal.returns-clause-own
returns-clause-own c = own_read

pub returns-clause-each : goal.returns-clause-each
returns-clause-each c = each_read

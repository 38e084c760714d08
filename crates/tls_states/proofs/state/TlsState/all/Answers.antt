use Rattle.tls_states.proofs.RowLemmas.{all_states, each_once}
use Rattle.tls_states.proofs.state.TlsState.all.Goals as goal

pub returns-clause-each : goal.returns-clause-each
returns-clause-each c = all_states

pub returns-clause-once : goal.returns-clause-once
returns-clause-once c = each_once

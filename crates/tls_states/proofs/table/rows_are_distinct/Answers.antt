use Rattle.tls_states.proofs.RowLemmas.{rows_are_one_each}
use Rattle.tls_states.proofs.table.rows_are_distinct.Goals as goal

pub returns : goal.returns
returns c = rows_are_one_each

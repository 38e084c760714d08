use Rattle.tcp_acceptance.proofs.RefuteLemmas.{refutes_where_different}
use Rattle.tcp_acceptance.proofs.laws.a_segment_is_refuted_where_a_byte_differs.Goals as goal

pub returns : goal.returns
returns c = refutes_where_different

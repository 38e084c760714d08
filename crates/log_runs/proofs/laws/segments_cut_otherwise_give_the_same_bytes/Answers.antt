use Rattle.log_runs.proofs.StreamLemmas.{cut_otherwise, in_order_front, next_unread}
use Rattle.log_runs.proofs.laws.segments_cut_otherwise_give_the_same_bytes.Goals as goal

pub returns-clause-same : goal.returns-clause-same
returns-clause-same c = cut_otherwise

pub returns-clause-front : goal.returns-clause-front
returns-clause-front c = in_order_front

pub returns-clause-next : goal.returns-clause-next
returns-clause-next c = next_unread

use Rattle.connections.proofs.EndLemmas.{same_ends}
use Rattle.connections.proofs.laws.no_other_packets_have_these_ends.Goals as goal

pub returns : goal.returns
returns c = same_ends

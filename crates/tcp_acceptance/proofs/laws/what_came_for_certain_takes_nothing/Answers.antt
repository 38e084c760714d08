use Rattle.tcp_acceptance.proofs.LawLemmas.{takes_nothing}
use Rattle.tcp_acceptance.proofs.laws.what_came_for_certain_takes_nothing.Goals as goal

pub returns : goal.returns
returns c = takes_nothing

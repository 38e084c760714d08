use Rattle.tcp_acceptance.proofs.LawLemmas.{takes_the_same}
use Rattle.tcp_acceptance.proofs.laws.others_do_not_change_what_is_taken.Goals as goal

pub returns : goal.returns
returns c = takes_the_same

use Rattle.tcp_acceptance.proofs.LawLemmas.{waits_as_before}
use Rattle.tcp_acceptance.proofs.laws.a_full_room_decides_nothing.Goals as goal

pub returns : goal.returns
returns c = waits_as_before

use Rattle.networks.proofs.NumberLemmas.{apart}
use Rattle.networks.proofs.laws.packets_of_one_number_are_of_one_network.Goals as goal

pub returns : goal.returns
returns c = apart

use Rattle.ip_fragments.proofs.LawLemmas.{out_whole}
use Rattle.ip_fragments.proofs.laws.what_is_handed_out_is_the_datagram.Goals as goal

pub returns : goal.returns
returns c = out_whole

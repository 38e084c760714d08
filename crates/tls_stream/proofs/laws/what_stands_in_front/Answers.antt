use Rattle.tls_stream.proofs.FrontLemmas.{front_stays}
use Rattle.tls_stream.proofs.laws.what_stands_in_front.Goals as goal

pub returns-clause-stays : goal.returns-clause-stays
returns-clause-stays c f b s y r e = front_stays f b s (y, r) e

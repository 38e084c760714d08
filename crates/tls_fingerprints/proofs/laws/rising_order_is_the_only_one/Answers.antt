use Rattle.tls_fingerprints.proofs.RisingLemmas.{sorted_is_rising}
use Rattle.tls_fingerprints.proofs.laws.rising_order_is_the_only_one.Goals as goal

pub returns : goal.returns
returns c = sorted_is_rising

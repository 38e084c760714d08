use Rattle.tls_analyzer.proofs.FirstLemmas.{found_alike}
use Rattle.tls_analyzer.proofs.laws.found_tls_is_read_alike.Goals as goal

pub returns : goal.returns
returns c = found_alike

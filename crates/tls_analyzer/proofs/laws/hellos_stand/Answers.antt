use Rattle.tls_analyzer.proofs.HelloLemmas.{received_keeps}
use Rattle.tls_analyzer.proofs.laws.hellos_stand.Goals as goal

pub returns : goal.returns
returns c = received_keeps

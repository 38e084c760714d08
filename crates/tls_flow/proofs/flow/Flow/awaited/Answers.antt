use Rattle.tls_flow.proofs.AwaitLemmas.{awaited_of_flow}
use Rattle.tls_flow.proofs.flow.Flow.awaited.Goals as goal

pub returns-clause-by_grammar : goal.returns-clause-by_grammar
returns-clause-by_grammar c = λ events comes l.
    awaited_of_flow c.awaited.result.now c.args.self.now events c.awaited.ensures comes l

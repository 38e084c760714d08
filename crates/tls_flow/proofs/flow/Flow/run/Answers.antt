use Rattle.std.proofs.Common.{◌≡◌, arith, rules}
use Rattle.std.proofs.lemmas.Grind.{common_steps}
use Rattle.tls_words.specs.Words.{run}
use Rattle.tls_flow.specs.Steps.{follow}
use Rattle.tls_flow.proofs.FlowLemmas.{flow_of_run, stopped_of_flow}
use Rattle.tls_flow.proofs.flow.Flow.run.Goals as goal

pub returns-clause-by_grammar : goal.returns-clause-by_grammar
returns-clause-by_grammar c =
    let ends : c.loop-i.self ≡ run follow c.args.self.now c.args.events.now =
    first_of (search rules, grind (arith, common_steps)) in
    flow_of_run c.args.events.now c.args.self.now c.loop-i.self ends

pub returns-clause-stopped : goal.returns-clause-stopped
returns-clause-stopped c =
    let ends : c.loop-i.self ≡ run follow c.args.self.now c.args.events.now =
    first_of (search rules, grind (arith, common_steps)) in
    stopped_of_flow c.args.events.now c.args.self.now c.loop-i.self ends

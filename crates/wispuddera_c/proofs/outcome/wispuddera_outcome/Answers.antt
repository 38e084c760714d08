use Rattle.wispuddera_c.proofs.OutcomeLemmas.{outcome_holds}
use Rattle.wispuddera_c.proofs.outcome.wispuddera_outcome.Goals as goal

pub returns : goal.returns
returns c = (
  c.outcome.result,
  c.number_of_outcome.ensures,
  outcome_holds c.args.events.now c.flow_of.result c.outcome.result c.flow_of.ensures
      c.outcome.ensures,
)

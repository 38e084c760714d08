use Rattle.std.proofs.Common.{sym, ◌∙◌}
use Rattle.wispuddera_c.proofs.FlowLemmas.{outcome_there}
use Rattle.wispuddera_c.proofs.flow.wispuddera_flow_outcome.Goals as goal

pub returns-in-Some-clause-shown_by : goal.returns-in-Some-clause-shown_by
returns-in-Some-clause-shown_by c = λ events behind. (
  c.outcome.result,
  c.number_of_outcome.ensures,
  outcome_there events c.args.flow.now c.in-Some.state c.outcome.result
      (sym c.state_of.ensures ∙ c.in-Some.is)
      c.outcome.ensures behind,
)

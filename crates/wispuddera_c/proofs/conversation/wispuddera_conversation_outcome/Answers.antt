use Rattle.std.proofs.Common.{◌∙◌, ap}
use Rattle.tls_flow.specs.Table.{outcome_at}
use Rattle.wispuddera_c.proofs.ConversationLemmas.{outcome_with}
use Rattle.wispuddera_c.proofs.conversation.wispuddera_conversation_outcome.Goals as goal

pub returns : goal.returns
returns c = λ events are. (
  c.outcome.result,
  c.number_of_outcome.ensures,
  outcome_with events c.args.conversation.now c.outcome.result are
      (c.outcome.ensures ∙ ap outcome_at c.state.ensures),
)

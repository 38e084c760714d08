use Rattle.std.proofs.Common.{refl, sym, ◌∙◌, ap}
use Rattle.tls_flow.specs.Table.{is_failed, outcome_at}
use Rattle.wispuddera_c.proofs.ConversationLemmas.{no_stop_with, stop_with}
use Rattle.wispuddera_c.proofs.conversation.wispuddera_conversation_stop.Goals as goal

pub returns-then-is_stopped-clause-shown_by : goal.returns-then-is_stopped-clause-shown_by
returns-then-is_stopped-clause-shown_by c = λ events are. record {
  shown_by = λ read. stop_with events c.args.conversation.now are
      (sym (c.is_stopped.ensures ∙ ap is_failed (c.outcome.ensures ∙ ap outcome_at c.state.ensures))
      ∙ c.if-is_stopped.true);
  none = λ other. absurd (other refl);
}

pub returns-else-is_stopped-clause-shown_by : goal.returns-else-is_stopped-clause-shown_by
returns-else-is_stopped-clause-shown_by c = λ events are. record {
  shown_by = λ read. cc;
  none = λ other. (
    refl,
    no_stop_with events c.args.conversation.now are
        (sym (c.is_stopped.ensures
        ∙ ap is_failed (c.outcome.ensures ∙ ap outcome_at c.state.ensures))
        ∙ c.if-is_stopped.false),
  );
}

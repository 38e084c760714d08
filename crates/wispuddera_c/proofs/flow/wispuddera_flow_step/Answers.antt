use Rattle.std.proofs.Common.{ap, Some, sym, ◌∙◌}
use Rattle.wispuddera_c.proofs.FlowLemmas.{steps}
use Rattle.wispuddera_c.proofs.flow.wispuddera_flow_step.Goals as goal

pub returns-in-Some-clause-follows : goal.returns-in-Some-clause-follows
returns-in-Some-clause-follows c = λ events behind.
    steps events c.args.event.now c.followed_event.result c.in-Some.state c.args.flow.now
    (record { state = c.number_of_state.result }) c.at-followed.result c.update.new.self
    (sym c.state_of.ensures ∙ c.in-Some.is) (ap (λ f. f.state) c.at-followed.ensures)
    c.update.ensures
    c.followed_event.ensures.symbol c.followed_event.ensures.alert
    (c.number_of_state.ensures ∙ ap Some c.state.ensures) behind

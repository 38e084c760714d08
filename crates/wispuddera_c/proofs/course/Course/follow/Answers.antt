use Rattle.std.proofs.Common.{◌∙◌, ap}
use Rattle.std.specs.Option.{is_some, unwrap_or}
use Rattle.tls_flow.specs.Steps.{follow, silence}
use Rattle.tls_flow.specs.declared.state.State.TheVariants as state
use Rattle.wispuddera_c.specs.Course.{state_in, stop_of}
use Rattle.wispuddera_c.proofs.CourseLemmas.{flow_at, followed_from}
use Rattle.wispuddera_c.proofs.course.Course.follow.Goals as goal

pub returns : goal.returns
returns c =
    let q = state_in c.args.self.now.flow in
    let s = stop_of c.args.self.now.stop in
    let n = c.args.self.now.events in
    ap (λ m. flow_at (state_in (record { state = c.number_of_state.result })) m
    (stop_of c.stop_behind-self.result))
    c.saturating_add-self.ensures
    ∙ followed_from q n s c.args.event c.update.new.self c.is_some.result
    (stop_of c.stop_behind-self.result)
    (state_in (record { state = c.number_of_state.result }))
    (c.update.ensures
    ∙ ap (λ f. follow f c.args.event)
    (c.at-followed.ensures ∙ ap (λ q. record silence { state = q }) c.state.ensures))
    (c.is_some.ensures ∙ ap is_some c.stop.ensures) c.stop_behind-self.ensures
    (ap (λ o. unwrap_or o state.NoHandshake) c.number_of_state.ensures ∙ c.state-2.ensures)

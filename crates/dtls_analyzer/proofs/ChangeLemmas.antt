-- A flow that goes on from a state.
use Rattle.std.proofs.Common.{◌≡◌, Bool, true, false, refl}
use Rattle.tls_flow.specs.Steps.{follow, silence}
use Rattle.tls_flow.specs.Table.{is_waiting, outcome_at}
use Rattle.tls_flow.specs.declared.event.FlowEvent.{FlowEvent}
use Rattle.tls_flow.specs.declared.flow.Flow.{Flow}

pub state_alone : (f : Flow) (e : FlowEvent)
    → (follow (record silence { state = f.state }) e).state ≡ (follow f e).state
state_alone f e = go (is_waiting (outcome_at f.state)) refl
  where
    go : (b : Bool) → is_waiting (outcome_at f.state) ≡ b
        → (follow (record silence { state = f.state }) e).state ≡ (follow f e).state
    go true w = rw w refl
    go false w = rw w refl

-- A flow: its state, the count of its events, and what stopped it.
use Rattle.std.specs.Prelude.{ℕ, ◌+◌, ◌-◌, ◌^◌, min, Option, None, Some, Bool, true, false, if◌then◌else◌}
use Rattle.tls_flow.specs.Table.{step, outcome_at, is_failed, is_waiting}
use Rattle.tls_flow.specs.declared.event.FlowEvent.{FlowEvent}
use Rattle.tls_flow.specs.declared.flow.Flow.{Flow}
use Rattle.tls_flow.specs.declared.flow.Stop.{Stop}
use Rattle.tls_flow.specs.declared.state.State.{State}
use Rattle.tls_flow.specs.declared.state.State.TheVariants as state
use Rattle.tls_flow.specs.declared.state.Outcome.{Outcome}
use Rattle.tls_flow.specs.declared.state.Outcome.TheVariants as outcome

-- A new conversation.
abbrev pub silence : Flow
silence = record { state = state.Start; events = 0; stop = None }

-- Stores the event that ends a handshake without success, with the count of events before it.
abbrev pub stop_at : Outcome → Flow → FlowEvent → Option Stop
stop_at o f e = if is_failed o then Some (record { event = e; place = f.events }) else f.stop

-- One more event, saturating.
abbrev pub counted : ℕ → ℕ
counted n = min (n + 1) (2 ^ 64 - 1)

abbrev pub moved : State → Flow → FlowEvent → Flow
moved q f e = record { state = q; events = counted f.events; stop = stop_at (outcome_at q) f e }

-- The flow after an event. After the end it only counts.
abbrev pub follow_by : Bool → Flow → FlowEvent → Flow
follow_by true f e = moved (step f.state e.symbol) f e
follow_by false f e = record f { events = counted f.events }

abbrev pub follow : Flow → FlowEvent → Flow
follow f e = follow_by (is_waiting (outcome_at f.state)) f e

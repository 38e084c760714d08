-- The flow of a handshake, and what stopped it, as C structs.
use Rattle.std.specs.Prelude.{Option, Some, None, if◌then◌else◌}
use Rattle.std.specs.Option.{unwrap_or}
use Rattle.tls_base.specs.declared.alert_description.TlsAlertDescription.{TlsAlertDescription}
use Rattle.tls_flow.specs.Table.{is_failed, outcome_at}
use Rattle.tls_flow.specs.declared.flow.Flow.{Flow as Followed}
use Rattle.tls_flow.specs.declared.flow.Stop.{Stop as FlowStop}
use Rattle.tls_flow.specs.declared.state.State.{State}
use Rattle.tls_flow.specs.declared.state.State.TheVariants as state
use Rattle.wispuddera_c.specs.Flow.{state_at}
use Rattle.wispuddera_c.specs.Outcome.{symbol_of}
use Rattle.wispuddera_c.specs.declared.course.Course.{Course}
use Rattle.wispuddera_c.specs.declared.course.Stop.{Stop}
use Rattle.wispuddera_c.specs.declared.flow.Flow.{Flow}

-- An unknown number counts as no handshake.
abbrev pub state_in : Flow → State
state_in f = unwrap_or (state_at f.state) state.NoHandshake

abbrev pub alert_in : Stop → Option TlsAlertDescription
alert_in s = if s.is_alert then Some (record { 0 = s.alert }) else None

abbrev pub stop_of : Stop → FlowStop
stop_of s = record {
  event = record { symbol = symbol_of s.event; alert = alert_in s };
  place =
      s.events_before;
}

-- What stopped it, if it is stopped.
abbrev pub stop_in : State → Stop → Option FlowStop
stop_in q s = if is_failed (outcome_at q) then Some (stop_of s) else None

-- The flow of the struct.
abbrev pub flow_with : State → Course → Followed
flow_with q c = record { state = q; events = c.events; stop = stop_in q c.stop }

abbrev pub flow_of : Course → Followed
flow_of c = flow_with (state_in c.flow) c

-- Events with a kind alone, and events of alerts.
use Rattle.std.specs.Prelude.{Some, None}
use Rattle.tls_base.specs.Alert.{Alert}
use Rattle.tls_flow.specs.Symbols.{symbol}
use Rattle.tls_flow.specs.Messages.{kind_of_alert}
use Rattle.tls_flow.specs.declared.event.FlowEvent.{FlowEvent}
use Rattle.tls_flow.specs.declared.symbol.Kind.{Kind}
use Rattle.tls_flow.specs.declared.symbol.Direction.{Direction}

-- An event that is no alert.
abbrev pub plain : Kind → Direction → FlowEvent
plain k s = record { symbol = symbol k s; alert = None }

abbrev pub of_alert : Alert → Direction → FlowEvent
of_alert a s =
    record { symbol = symbol (kind_of_alert a) s; alert = Some (record { 0 = a.description }) }

-- What the grammar sees of a message: its kind, and the side it goes to.
use Rattle.std.specs.Prelude.{List, map}
use Rattle.tls_flow.specs.declared.symbol.Kind.{Kind}
use Rattle.tls_flow.specs.declared.symbol.Direction.{Direction}
use Rattle.tls_flow.specs.declared.symbol.Symbol.{Symbol}
use Rattle.tls_flow.specs.declared.event.FlowEvent.{FlowEvent}

abbrev pub symbol : Kind → Direction → Symbol
symbol k d = record { kind = k; direction = d }

abbrev pub Word : Type 0
Word = List Symbol

-- The symbols of events.
abbrev pub symbols_of : List FlowEvent → Word
symbols_of events = map (λ e. e.symbol) events

-- How the messages of records change the state.
use Rattle.std.specs.Prelude.{Bool, true, false, List, map}
use Rattle.tls_hs.specs.Message as messages
use Rattle.tls_states.specs.Symbols.{symbol_of_viewed}
use Rattle.tls_states.specs.Steps.{run}
use Rattle.tls_states.specs.declared.state.TlsState.{TlsState}
use Rattle.tlsview.specs.declared.direction.LineDirection.{LineDirection}
use Rattle.tlsview.specs.declared.direction.LineDirection.TheVariants.{ToServer, FromServer}

abbrev pub goes_to_server : LineDirection → Bool
goes_to_server ToServer = true
goes_to_server FromServer = false

-- the state after messages of one direction
abbrev pub state_after : LineDirection → TlsState → List messages.Message → TlsState
state_after d state ms = run state (map (λ m. symbol_of_viewed m (goes_to_server d)) ms)

-- the message after which all records of its direction are encrypted
abbrev pub changes_cipher : messages.Message → Bool
changes_cipher messages.ChangeCipherSpec = true
changes_cipher _ = false

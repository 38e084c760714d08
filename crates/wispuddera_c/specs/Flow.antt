-- A conversation followed event by event, as a number that the caller keeps.
use Rattle.std.specs.Prelude.{◌≡◌, ℕ, List, [], ◌∷◌, Option, Some, map, slice_get}
use Rattle.tls_flow.specs.Steps.{follow, silence}
use Rattle.tls_flow.specs.declared.flow.Flow.{Flow as Followed}
use Rattle.tls_flow.specs.declared.state.State.{State}
use Rattle.tls_flow.specs.declared.state.State.TheVariants as state
use Rattle.tls_words.specs.Words.{run}
use Rattle.wispuddera_c.specs.Outcome.{event_of}
use Rattle.wispuddera_c.specs.declared.flow.Flow.{Flow}
use Rattle.wispuddera_c.specs.declared.outcome.Event.{Event}

-- The states in the order of their numbers.
abbrev pub states : List State
states =
    state.Start ∷ state.Hello ∷ state.Verify ∷ state.VerifiedHello ∷ state.ChangedHello
    ∷ state.EarlyHello ∷ state.Retry
    ∷ state.EarlyRetry ∷ state.SecondHello ∷ state.EarlySecondHello ∷ state.ServerHello
    ∷ state.Certificate
    ∷ state.CertificateStatus ∷ state.CertifiedKeys ∷ state.Keys ∷ state.Request ∷ state.RequestDone
    ∷ state.ClientCertificate ∷ state.ClientKeys ∷ state.Done ∷ state.ClientDone
    ∷ state.ClientChange ∷ state.Ticket
    ∷ state.ResumedTicket ∷ state.ServerChange ∷ state.Full ∷ state.Resumed ∷ state.Tls13
    ∷ state.EarlyTls13
    ∷ state.RetriedTls13 ∷ state.EarlyRetriedTls13 ∷ state.BrokenOff ∷ state.Unknown
    ∷ state.NoHandshake ∷ []

-- The state with this number; none past the last.
abbrev pub state_at : ℕ → Option State
state_at n = slice_get states n

-- The flow after these events.
abbrev pub followed : List Event → Followed
followed events = run follow silence (map event_of events)

-- The number is that of the state after these events.
abbrev pub IsBehind : List Event → Flow → Type 0
IsBehind events flow = state_at flow.state ≡ Some (followed events).state

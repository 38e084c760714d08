-- The events of a conversation and its outcome, as C numbers.
use Rattle.std.specs.Prelude.{ℕ, List, map, None, ◌==◌, if◌then◌else◌, true, false}
use Rattle.tls_flow.specs.Symbols.{symbol, Word}
use Rattle.tls_flow.specs.Messages.{direction}
use Rattle.tls_flow.specs.declared.event.FlowEvent.{FlowEvent}
use Rattle.tls_flow.specs.declared.symbol.Symbol.{Symbol}
use Rattle.tls_flow.specs.declared.symbol.Kind.{Kind}
use Rattle.tls_flow.specs.declared.symbol.Kind.TheVariants as kind
use Rattle.tls_flow.specs.declared.state.Outcome.{Outcome}
use Rattle.tls_flow.specs.declared.state.Outcome.TheVariants as outcome
use Rattle.wispuddera_c.specs.declared.outcome.Event.{Event}

abbrev pub kind_of_number : ℕ → Kind
kind_of_number n =
    if n == 0 then kind.HelloRequest
    else if n == 1 then kind.ClientHello
    else if n == 2 then kind.HelloVerifyRequest
    else if n == 3 then kind.ServerHello
    else if n == 4 then kind.HelloRetryRequest
    else if n == 5 then kind.ServerHello13
    else if n == 6 then kind.NewSessionTicket
    else if n == 7 then kind.Certificate
    else if n == 8 then kind.ServerKeyExchange
    else if n == 9 then kind.CertificateRequest
    else if n == 10 then kind.ServerDone
    else if n == 11 then kind.CertificateVerify
    else if n == 12 then kind.ClientKeyExchange
    else if n == 13 then kind.CertificateStatus
    else if n == 14 then kind.ChangeCipherSpec
    else if n == 15 then kind.Encrypted
    else if n == 16 then kind.Warning
    else if n == 17 then kind.NoCertificate
    else if n == 18 then kind.Fatal
    else if n == 19 then kind.Heartbeat
    else if n == 20 then kind.Other
    else kind.Unknown

abbrev pub symbol_of : Event → Symbol
symbol_of e = symbol (kind_of_number e.kind) (direction e.to_server)

abbrev pub event_of : Event → FlowEvent
event_of e = record { symbol = symbol_of e; alert = None }

-- The symbols of a conversation's events.
abbrev pub word_of : List Event → Word
word_of events = map symbol_of events

abbrev pub outcome_number : Outcome → ℕ
outcome_number outcome.Waiting = 0
outcome_number outcome.Full = 1
outcome_number outcome.Resumed = 2
outcome_number outcome.BrokenOff = 3
outcome_number outcome.Unknown = 4
outcome_number outcome.NoHandshake = 5
outcome_number (outcome.Tls13 false false) = 6
outcome_number (outcome.Tls13 true false) = 7
outcome_number (outcome.Tls13 false true) = 8
outcome_number (outcome.Tls13 true true) = 9

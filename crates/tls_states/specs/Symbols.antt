-- Messages as symbols, conversations as words.
use Rattle.std.specs.Prelude.{ℕ, List, map, Bool, true, false, is_some, if◌then◌else◌, ◌==◌}
use Rattle.std.specs.Borrow.{Bor}
use Rattle.tls_hs.specs.Handshake as handshakes
use Rattle.tls_hs.specs.HandshakeText.{msg_type_of}
use Rattle.tls_hs.specs.Message as messages
use Rattle.tls_hs.specs.declared.message.TlsMessage.{TlsMessage}
use Rattle.tls_states.specs.declared.symbol.Kind.{Kind}
use Rattle.tls_states.specs.declared.symbol.Kind.TheVariants as kind
use Rattle.tls_states.specs.declared.symbol.Direction.{Direction}
use Rattle.tls_states.specs.declared.symbol.Direction.TheVariants.{ToServer, FromServer}

-- The part of a message that the rules of a conversation use.
pub data Symbol : Type 0 where
  symbol : Kind → Direction → Symbol

abbrev pub Word : Type 0
Word = List Symbol

-- The kind of a HandshakeType (RFC 5246, section 7.4; RFC 5077, section 3.3; RFC 6066, section 8).
-- A ClientHello counts as one without a session id.
abbrev pub kind_of_type : ℕ → Kind
kind_of_type n =
    if n == 0 then kind.HelloRequest
    else if n == 1 then kind.ClientHello
    else if n == 2 then kind.ServerHello
    else if n == 4 then kind.NewSessionTicket
    else if n == 11 then kind.Certificate
    else if n == 12 then kind.ServerKeyExchange
    else if n == 13 then kind.CertificateRequest
    else if n == 14 then kind.ServerDone
    else if n == 15 then kind.CertificateVerify
    else if n == 16 then kind.ClientKeyExchange
    else if n == 22 then kind.CertificateStatus
    else kind.Other

-- The kind of a ClientHello, with or without a session id.
abbrev pub kind_of_hello : Bool → Kind
kind_of_hello has_id = if has_id then kind.ClientHelloWithId else kind.ClientHello

-- The kind of the message's type, except for the ServerHello of draft 18 of TLS 1.3
-- (draft-ietf-tls-tls13-18, section 4.1.3).
abbrev pub kind_by_variant : handshakes.Handshake → Kind
kind_by_variant (handshakes.ServerHelloV13Draft18 hello) = kind.ServerHelloV13Draft18
kind_by_variant m = kind_of_type (msg_type_of m)

abbrev pub kind_of_handshake : handshakes.Handshake → Kind
kind_of_handshake (handshakes.ClientHello hello) = kind_of_hello (is_some hello.session_id)
kind_of_handshake m = kind_by_variant m

-- The kind of a message. An alert of severity 1 is a warning.
abbrev pub kind_of_message : messages.Message → Kind
kind_of_message (messages.Handshake m) = kind_of_handshake m
kind_of_message messages.ChangeCipherSpec = kind.ChangeCipherSpec
kind_of_message (messages.Alert alert) = if alert.level == 1 then kind.Warning else kind.Fatal
kind_of_message _ = kind.Other

abbrev pub direction : Bool → Direction
direction true = ToServer
direction false = FromServer

-- The symbol of a message's value and its direction.
abbrev pub symbol_of_viewed : messages.Message → Bool → Symbol
symbol_of_viewed m to_server = symbol (kind_of_message m) (direction to_server)

abbrev pub symbol_of : TlsMessage → Bool → Symbol
symbol_of m to_server = symbol_of_viewed (messages.view_message m) to_server

-- The word of a conversation: each message, and whether it goes to the server.
abbrev pub word : List (TlsMessage × Bool) → Word
word messages = map (λ m. symbol_of m.0 m.1) messages

-- The word of a conversation of borrowed messages.
abbrev pub borrowed_word : List (Bor TlsMessage × Bool) → Word
borrowed_word messages = map (λ m. symbol_of m.0.now m.1) messages

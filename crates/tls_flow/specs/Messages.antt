-- The symbols of messages, wherever these lie in memory.
use Rattle.std.specs.Prelude.{
  ℕ,
  List,
  [],
  ◌∷◌,
  Bool,
  true,
  false,
  Option,
  Some,
  None,
  if◌then◌else◌,
  ◌==◌,
  ◌&&◌,
  ◌||◌,
  not,
  nat_lt,
}
use Rattle.layouts.specs.Bytes.{Bytes}
use Rattle.layouts.specs.Framed.{Framed}
use Rattle.layouts.specs.Items.{items_in}
use Rattle.tls_base.specs.Alert.{Alert}
use Rattle.tls_base.specs.ExtensionNumbers.{supported_versions}
use Rattle.tls_ext.specs.InPlace.{raw_extension}
use Rattle.tls_hs.specs.ServerHello as servers
use Rattle.tls_hs.specs.Handshake as handshakes
use Rattle.tls_hs.specs.HandshakeText.{msg_type_of}
use Rattle.tls_hs.specs.Message as messages
use Rattle.tls_hs.specs.declared.message.TlsMessage.{TlsMessage}
use Rattle.tls_flow.specs.Symbols.{symbol}
use Rattle.tls_flow.specs.declared.symbol.Symbol.{Symbol}
use Rattle.tls_flow.specs.declared.symbol.Kind.{Kind}
use Rattle.tls_flow.specs.declared.symbol.Kind.TheVariants as kind
use Rattle.tls_flow.specs.declared.symbol.Direction.{Direction}
use Rattle.tls_flow.specs.declared.symbol.Direction.TheVariants.{ToServer, FromServer}

-- A version before TLS 1.3: SSL 3.0 to TLS 1.2 (0x0300 to 0x0303; RFC 5246, E.1), DTLS 1.0 (0xfeff;
-- RFC 4347, 4.1) and DTLS 1.2 (0xfefd; RFC 6347, 4.1).
abbrev pub is_earlier : ℕ → ℕ → Bool
is_earlier major minor = (major == 3 && nat_lt minor 4)
    || (major == 0xfe && (minor == 0xff || minor == 0xfd))

-- The version that the server picks (RFC 8446, 4.2.1), in two bytes. A server that negotiates an
-- earlier one doesn't send it. So it is TLS 1.3 (0x0304), DTLS 1.3 (0xfefc; RFC 9147, 5.3), or a
-- draft of these, whose numbers aren't registered: 0x7f and the draft's number (RFC 8446's drafts,
-- 4.2.1.1), or one of an implementation, such as 0xfb17. A client that finds an earlier version
-- here aborts the handshake, which counts as one of that version.
abbrev pub is_tls13_version : Bytes → Bool
is_tls13_version (major ∷ minor ∷ []) = not (is_earlier major minor)
is_tls13_version _ = false

-- The extension is supported_versions and names such a version.
abbrev pub picks_tls13 : Framed → Bool
picks_tls13 e = e.kind == supported_versions && is_tls13_version e.content

abbrev pub any_picks : List Framed → Bool
any_picks [] = false
any_picks (e ∷ es) = if picks_tls13 e then true else any_picks es

-- An extension of the block b picks TLS 1.3 (RFC 8446, 4.2). The list ends at bytes that are no
-- extension.
abbrev pub picks_in : Bytes → Bool
picks_in b = any_picks (items_in raw_extension b)

abbrev pub picks : Option Bytes → Bool
picks (Some block) = picks_in block
picks None = false

-- A fixed random marks a HelloRetryRequest (RFC 8446, 4.1.3); the version that it picks marks a
-- ServerHello of TLS 1.3.
abbrev pub kind_of_server_hello : servers.ServerHello → Kind
kind_of_server_hello h =
    if servers.is_retry_request h then kind.HelloRetryRequest
    else if picks h.extensions then kind.ServerHello13 else kind.ServerHello

-- The kind of a HandshakeType (RFC 5246, 7.4; RFC 6347, 4.3.2; RFC 5077, 3.3; RFC 6066, 8; RFC
-- 8446, 4, and its drafts). Of those that only TLS 1.3 has, just the HelloRetryRequest of drafts,
-- 6, comes in the clear before the handshake's end (draft-ietf-tls-tls13-19, 4.1.4). A ServerHello
-- counts as one below TLS 1.3.
abbrev pub kind_of_type : ℕ → Kind
kind_of_type n =
    if n == 0 then kind.HelloRequest
    else if n == 1 then kind.ClientHello
    else if n == 2 then kind.ServerHello
    else if n == 3 then kind.HelloVerifyRequest
    else if n == 4 then kind.NewSessionTicket
    else if n == 6 then kind.HelloRetryRequest
    else if n == 8 then kind.Other
    else if n == 11 then kind.Certificate
    else if n == 12 then kind.ServerKeyExchange
    else if n == 13 then kind.CertificateRequest
    else if n == 14 then kind.ServerDone
    else if n == 15 then kind.CertificateVerify
    else if n == 16 then kind.ClientKeyExchange
    else if n == 22 then kind.CertificateStatus
    else if handshakes.is_read n then kind.Other
    else kind.Unknown

-- The kind of a message's type, except for a ServerHello. Draft 18 of TLS 1.3 has a separate form
-- of it (draft-ietf-tls-tls13-18, 4.1.3).
abbrev pub kind_of_handshake : handshakes.Handshake → Kind
kind_of_handshake (handshakes.ServerHello hello) = kind_of_server_hello hello
kind_of_handshake (handshakes.ServerHelloV13Draft18 hello) = kind.ServerHello13
kind_of_handshake m = kind_of_type (msg_type_of m)

-- Level 1 is a warning, except for close_notify (0), after which its sender sends nothing more (RFC
-- 5246, 7.2.1), and the no_certificate (41) of SSL 3.0 (RFC 6101, 5.6.6).
abbrev pub kind_of_alert : Alert → Kind
kind_of_alert a =
    if not (a.level == 1) then kind.Fatal
    else if a.description == 0 then kind.Fatal
    else if a.description == 41 then kind.NoCertificate else kind.Warning

abbrev pub kind_of : messages.Message → Kind
kind_of (messages.Handshake m) = kind_of_handshake m
kind_of messages.ChangeCipherSpec = kind.ChangeCipherSpec
kind_of (messages.Alert a) = kind_of_alert a
kind_of (messages.ApplicationData d) = kind.Encrypted
kind_of (messages.Heartbeat h) = kind.Heartbeat

abbrev pub direction : Bool → Direction
direction true = ToServer
direction false = FromServer

-- The symbol of a message parsed from bytes; the Bool is whether it goes to the server.
abbrev pub symbol_of_viewed : messages.Message → Bool → Symbol
symbol_of_viewed m to_server = symbol (kind_of m) (direction to_server)

abbrev pub symbol_of : TlsMessage → Bool → Symbol
symbol_of m to_server = symbol_of_viewed (messages.view_message m) to_server

-- The handshakes of TLS 1.0 to 1.3 and DTLS 1.0 to 1.3, up to the second ChangeCipherSpec, or up to
-- the ServerHello in TLS 1.3. After these, everything is encrypted.
use Rattle.std.specs.Prelude.{Bool, true, false}
use Rattle.tls_flow.specs.Symbols.{symbol}
use Rattle.tls_flow.specs.declared.symbol.Symbol.{Symbol}
use Rattle.tls_words.specs.Words.{Pattern, one, ◌then◌, ◌or◌, many, maybe}
use Rattle.tls_flow.specs.declared.symbol.Kind.{Kind}
use Rattle.tls_flow.specs.declared.symbol.Kind.TheVariants.{
  HelloRequest,
  ClientHello,
  HelloVerifyRequest,
  ServerHello,
  HelloRetryRequest,
  ServerHello13,
  NewSessionTicket,
  Certificate,
  ServerKeyExchange,
  CertificateRequest,
  ServerDone,
  CertificateVerify,
  ClientKeyExchange,
  CertificateStatus,
  ChangeCipherSpec,
  Encrypted,
  Warning,
  NoCertificate,
  Heartbeat,
}
use Rattle.tls_flow.specs.declared.symbol.Direction.{Direction}
use Rattle.tls_flow.specs.declared.symbol.Direction.TheVariants.{ToServer, FromServer}

abbrev pub client : Kind → Pattern Symbol
client k = one (symbol k ToServer)

abbrev pub server : Kind → Pattern Symbol
server k = one (symbol k FromServer)

-- The ClientHello. A server of DTLS asks for its cookie, and again if the cookie was bad (RFC 6347,
-- 4.2.1).
abbrev pub opening : Pattern Symbol
opening = client ClientHello then many (server HelloVerifyRequest then client ClientHello)

-- From ServerHelloDone to the client's ChangeCipherSpec, without a client certificate (RFC 5246,
-- 7.3).
abbrev pub without_client_certificate : Pattern Symbol
without_client_certificate = server ServerDone then client ClientKeyExchange then
    client ChangeCipherSpec

-- The client answers a CertificateRequest with a certificate or an empty list (7.4.6). If the
-- certificate can sign, it proves that it owns the key (7.4.8). A client of SSL 3.0 sends a warning
-- if it has none (RFC 6101, 5.6.6).
abbrev pub clients_answer : Pattern Symbol
clients_answer =
    client Certificate then client ClientKeyExchange then maybe (client CertificateVerify)
    or client NoCertificate then client ClientKeyExchange

-- From the CertificateRequest to the client's ChangeCipherSpec.
abbrev pub with_client_certificate : Pattern Symbol
with_client_certificate =
    server CertificateRequest then server ServerDone then clients_answer then
    client ChangeCipherSpec

-- After the server's Certificate: its CertificateStatus (RFC 6066, 8), the ServerKeyExchange, and
-- the CertificateRequest, which an anonymous server may not send (RFC 5246, 7.4.4).
abbrev pub after_certificate : Pattern Symbol
after_certificate =
    maybe (server CertificateStatus) then maybe (server ServerKeyExchange)
    then (with_client_certificate or without_client_certificate)

-- Pre-shared keys need neither a Certificate nor a ServerKeyExchange (RFC 4279, 2).
abbrev pub new_session : Pattern Symbol
new_session =
    server Certificate then after_certificate
    or maybe (server ServerKeyExchange) then without_client_certificate

-- After the client's ChangeCipherSpec: its Finished, perhaps data (RFC 7918), a ticket (RFC 5077,
-- 3.3), and the server's ChangeCipherSpec. An observer may see records of the client after the
-- server's ticket.
abbrev pub servers_change : Pattern Symbol
servers_change =
    many (client Encrypted) then maybe (server NewSessionTicket then many
    (client Encrypted)) then server ChangeCipherSpec

-- A full handshake: the first figure of RFC 5246, section 7.3.
abbrev pub full : Pattern Symbol
full = opening then server ServerHello then new_session then servers_change

-- A resumption: the second figure of RFC 5246, section 7.3. The server may issue a new ticket (RFC
-- 5077, 3.1, the second figure).
abbrev pub resumed : Pattern Symbol
resumed =
    opening then server ServerHello then maybe (server NewSessionTicket) then
    server ChangeCipherSpec
    then many (server Encrypted) then client ChangeCipherSpec

-- TLS 1.3 ignores a ChangeCipherSpec of either side at any time after the first ClientHello (RFC
-- 8446, 5 and D.4).
abbrev pub change : Pattern Symbol
change = client ChangeCipherSpec or server ChangeCipherSpec

-- A client may send early data, and goes on until the HelloRetryRequest reaches it (4.2.10).
abbrev pub more_early_data : Pattern Symbol
more_early_data = many (change or client Encrypted)

abbrev pub early_data : Pattern Symbol
early_data = many change then client Encrypted then more_early_data

-- The first and the second figure of RFC 8446, section 2, up to the server's first encrypted
-- message: with and without a HelloRetryRequest, with and without early data.
abbrev pub tls13 : Bool → Bool → Pattern Symbol
tls13 false false = client ClientHello then many change then server ServerHello13
tls13 false true = client ClientHello then early_data then server ServerHello13
tls13 true false =
    client ClientHello then many change then server HelloRetryRequest then many change
    then client ClientHello then many change then server ServerHello13
tls13 true true =
    client ClientHello
    then (early_data then server HelloRetryRequest then more_early_data or many change then
    server HelloRetryRequest then early_data)
    then client ClientHello then many change then server ServerHello13

abbrev pub handshake : Pattern Symbol
handshake = full or resumed or tls13 false false or tls13 false true or tls13 true false or
    tls13 true true

-- Noise: warnings, heartbeats (RFC 6520, 4), and the server's HelloRequests, which it may send at
-- any time (RFC 5246, 7.4.1.1).
abbrev pub is_noise_of : Kind → Direction → Bool
is_noise_of Warning d = true
is_noise_of Heartbeat d = true
is_noise_of HelloRequest FromServer = true
is_noise_of _ _ = false

abbrev pub is_noise : Symbol → Bool
is_noise l = is_noise_of l.kind l.direction

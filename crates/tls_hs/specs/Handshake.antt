-- Handshake messages (RFC 5246, section 7.4), with those of TLS 1.3 and its drafts whose numbers
-- TLS 1.2 doesn't use: types 5 and 24 (RFC 8446, section 4), 6 (draft-ietf-tls-tls13-19, section
-- 4.1.4) and 67 (draft-agl-tls-nextprotoneg-04, section 3).
--
-- Types 4, 11 and 13 have another form in TLS 1.3, which isn't parsed: they are read in that of TLS
-- 1.2.
use Rattle.std.specs.Prelude.{ℕ, List, Bool, true, false, not, ◌==◌, ◌&&◌, nat_le}
use Rattle.layouts.specs.Bytes.{Bytes}
use Rattle.layouts.specs.Layout.{Layout, done, refuse, number, block, look, ◌>>=◌, mapped, choose}
use Rattle.layouts.specs.declared.result.ErrorKind.TheVariants.{Switch, Tag}
use Rattle.tls_hs.specs.Hello as hello
use Rattle.tls_hs.specs.ServerHello as server
use Rattle.tls_hs.specs.Certificate as certificates
use Rattle.tls_hs.specs.Session as session
use Rattle.tls_hs.specs.declared.handshake.TlsMessageHandshake.{TlsMessageHandshake}
use Rattle.tls_hs.specs.declared.handshake.TlsMessageHandshake.TheVariants as tls_handshake

-- The value of a handshake message, regardless of its place in memory.
pub data Handshake : Type 0 where
  HelloRequest : Handshake
  ClientHello : hello.ClientHello → Handshake
  ServerHello : server.ServerHello → Handshake
  ServerHelloV13Draft18 : server.ServerHelloDraft18 → Handshake
  NewSessionTicket : session.NewSessionTicket → Handshake
  EndOfEarlyData : Handshake
  HelloRetryRequest : server.HelloRetryRequest → Handshake
  Certificate : List Bytes → Handshake
  ServerKeyExchange : Bytes → Handshake
  CertificateRequest : certificates.CertificateRequest → Handshake
  ServerDone : Bytes → Handshake
  CertificateVerify : Bytes → Handshake
  ClientKeyExchange : session.ClientKeyExchange → Handshake
  Finished : Bytes → Handshake
  CertificateStatus : certificates.CertificateStatus → Handshake
  NextProtocol : session.NextProtocol → Handshake
  KeyUpdate : ℕ → Handshake

abbrev pub view_handshake : TlsMessageHandshake → Handshake
view_handshake tls_handshake.HelloRequest = HelloRequest
view_handshake (tls_handshake.ClientHello h) = ClientHello (hello.view_client_hello h)
view_handshake (tls_handshake.ServerHello h) = ServerHello (server.view_server_hello h)
view_handshake (tls_handshake.ServerHelloV13Draft18 h) =
    ServerHelloV13Draft18 (server.view_server_hello_draft18 h)
view_handshake (tls_handshake.NewSessionTicket t) =
    NewSessionTicket (session.view_new_session_ticket t)
view_handshake tls_handshake.EndOfEarlyData = EndOfEarlyData
view_handshake (tls_handshake.HelloRetryRequest r) =
    HelloRetryRequest (server.view_hello_retry_request r)
view_handshake (tls_handshake.Certificate c) = Certificate (certificates.view_certificate c)
view_handshake (tls_handshake.ServerKeyExchange k) = ServerKeyExchange k.parameters.now
view_handshake (tls_handshake.CertificateRequest r) =
    CertificateRequest (certificates.view_certificate_request r)
view_handshake (tls_handshake.ServerDone b) = ServerDone b.now
view_handshake (tls_handshake.CertificateVerify b) = CertificateVerify b.now
view_handshake (tls_handshake.ClientKeyExchange k) =
    ClientKeyExchange (session.view_client_key_exchange k)
view_handshake (tls_handshake.Finished b) = Finished b.now
view_handshake (tls_handshake.CertificateStatus s) =
    CertificateStatus (certificates.view_certificate_status s)
view_handshake (tls_handshake.NextProtocol p) = NextProtocol (session.view_next_protocol p)
view_handshake (tls_handshake.KeyUpdate n) = KeyUpdate n

-- The bodies, as messages. A HelloRequest has no body.
unfoldable pub hello_request_body : Layout Handshake
hello_request_body = done HelloRequest

unfoldable pub client_hello_body : Layout Handshake
client_hello_body = mapped ClientHello hello.client_hello

-- The version, which isn't consumed, distinguishes draft 18 of TLS 1.3 from the others.
unfoldable pub server_hello_body : Layout Handshake
server_hello_body = do
  version ← look (number 2)
  choose (version == 0x7f12) (mapped ServerHelloV13Draft18 server.server_hello_draft18) (
      mapped ServerHello server.server_hello)

-- The ServerHello of drafts 14 to 21 of TLS 1.3: in the form of draft 18, with the version 0x7f and
-- the draft's number. From draft 22 on the form is that of RFC 8446, and the number is in
-- supported_versions (draft-ietf-tls-tls13-22, section 4.1.3).
unfoldable pub server_hello_of_draft_body : Layout Handshake
server_hello_of_draft_body = do
  version ← look (number 2)
  choose (nat_le 0x7f0e version && nat_le version 0x7f15)
      (mapped ServerHelloV13Draft18 server.server_hello_draft18)
      (refuse Tag)

unfoldable pub new_session_ticket_body : ℕ → Layout Handshake
new_session_ticket_body length = mapped NewSessionTicket (session.new_session_ticket length)

-- An EndOfEarlyData has no body (RFC 8446, section 4.5).
unfoldable pub end_of_early_data_body : Layout Handshake
end_of_early_data_body = done EndOfEarlyData

unfoldable pub hello_retry_request_body : Layout Handshake
hello_retry_request_body = mapped HelloRetryRequest server.hello_retry_request

unfoldable pub certificate_body : Layout Handshake
certificate_body = mapped Certificate certificates.certificate

unfoldable pub server_key_exchange_body : ℕ → Layout Handshake
server_key_exchange_body length = mapped ServerKeyExchange (block length)

unfoldable pub certificate_request_body : Layout Handshake
certificate_request_body = mapped CertificateRequest certificates.certificate_request

unfoldable pub server_done_body : ℕ → Layout Handshake
server_done_body length = mapped ServerDone (block length)

unfoldable pub certificate_verify_body : ℕ → Layout Handshake
certificate_verify_body length = mapped CertificateVerify (block length)

unfoldable pub client_key_exchange_body : ℕ → Layout Handshake
client_key_exchange_body length = mapped (λ b. ClientKeyExchange (session.Unknown b)) (block length)

unfoldable pub finished_body : ℕ → Layout Handshake
finished_body length = mapped Finished (block length)

unfoldable pub certificate_status_body : Layout Handshake
certificate_status_body = mapped CertificateStatus certificates.certificate_status

unfoldable pub next_protocol_body : Layout Handshake
next_protocol_body = mapped NextProtocol session.next_protocol

unfoldable pub key_update_body : Layout Handshake
key_update_body = mapped KeyUpdate (number 1)

-- select (HandshakeType) of a body of this length in bytes: the types from finished(20) on.
unfoldable pub body_from_finished : ℕ → ℕ → Layout Handshake
body_from_finished msg_type length =
    choose (msg_type == 20) (finished_body length) (
    choose (msg_type == 22) certificate_status_body (
    choose (msg_type == 24) key_update_body (
    choose (msg_type == 67) next_protocol_body (
    refuse Switch))))

-- select (HandshakeType) of a body of this length in bytes: the types from certificate(11) on.
unfoldable pub body_from_certificate : ℕ → ℕ → Layout Handshake
body_from_certificate msg_type length =
    choose (msg_type == 11) certificate_body (
    choose (msg_type == 12) (server_key_exchange_body length) (
    choose (msg_type == 13) certificate_request_body (
    choose (msg_type == 14) (server_done_body length) (
    choose (msg_type == 15) (certificate_verify_body length) (
    choose (msg_type == 16) (client_key_exchange_body length) (
    body_from_finished msg_type length))))))

-- select (HandshakeType) of a body of this length in bytes: all types.
unfoldable pub handshake_body : ℕ → ℕ → Layout Handshake
handshake_body msg_type length =
    choose (msg_type == 0) hello_request_body (
    choose (msg_type == 1) client_hello_body (
    choose (msg_type == 2) server_hello_body (
    choose (msg_type == 4) (new_session_ticket_body length) (
    choose (msg_type == 5) end_of_early_data_body (
    choose (msg_type == 6) hello_retry_request_body (
    body_from_certificate msg_type length))))))

-- The layout refuses any bytes.
abbrev pub is_refused : {A : Type 0} → Layout A → Bool
is_refused (refuse kind) = true
is_refused l = false

-- Whether bodies of this type are parsed.
unfoldable pub is_read : ℕ → Bool
is_read msg_type = not (is_refused (handshake_body msg_type 0))

-- Handshake messages of DTLS (RFC 6347, section 4.2).
use Rattle.std.specs.Prelude.{ℕ, Bool, List, nat_lt, ◌==◌, ◌||◌, ⊤}
use Rattle.layouts.specs.Bytes.{Bytes}
use Rattle.layouts.specs.Layout.{Layout, done, refuse, number, block, window, rest, mapped, ◌>>=◌, choose}
use Rattle.layouts.specs.declared.result.ErrorKind.TheVariants.{Switch}
use Rattle.tls_hs.specs.ServerHello as server_hello
use Rattle.tls_hs.specs.Certificate as certificate
use Rattle.tls_hs.specs.Session as session
use Rattle.dtls_records.specs.DtlsHello as dtls_hello
use Rattle.dtls_records.specs.declared.handshake.DTLSMessageHandshake.{DTLSMessageHandshake}
use Rattle.dtls_records.specs.declared.handshake.DTLSMessageHandshakeBody.{DTLSMessageHandshakeBody}
use Rattle.dtls_records.specs.declared.handshake.DTLSMessageHandshakeBody.TheVariants as dtls_body

-- The value of a handshake message's body, regardless of its place in memory, or a fragment of one.
pub data Body : Type 0 where
  HelloRequest : Body
  ClientHello : dtls_hello.ClientHello → Body
  HelloVerifyRequest : dtls_hello.HelloVerifyRequest → Body
  ServerHello : server_hello.ServerHello → Body
  NewSessionTicket : session.NewSessionTicket → Body
  HelloRetryRequest : server_hello.HelloRetryRequest → Body
  Certificate : List Bytes → Body
  ServerKeyExchange : Bytes → Body
  CertificateRequest : certificate.CertificateRequest → Body
  ServerDone : Bytes → Body
  CertificateVerify : Bytes → Body
  ClientKeyExchange : session.ClientKeyExchange → Body
  Finished : Bytes → Body
  CertificateStatus : certificate.CertificateStatus → Body
  NextProtocol : session.NextProtocol → Body
  Fragment : Bytes → Body

abbrev pub view_body : DTLSMessageHandshakeBody → Body
view_body dtls_body.HelloRequest = HelloRequest
view_body (dtls_body.ClientHello h) = ClientHello (dtls_hello.view_client_hello h)
view_body (dtls_body.HelloVerifyRequest r) =
    HelloVerifyRequest (dtls_hello.view_hello_verify_request r)
view_body (dtls_body.ServerHello h) = ServerHello (server_hello.view_server_hello h)
view_body (dtls_body.NewSessionTicket t) = NewSessionTicket (session.view_new_session_ticket t)
view_body (dtls_body.HelloRetryRequest r) =
    HelloRetryRequest (server_hello.view_hello_retry_request r)
view_body (dtls_body.Certificate c) = Certificate (certificate.view_certificate c)
view_body (dtls_body.ServerKeyExchange k) = ServerKeyExchange k.parameters.now
view_body (dtls_body.CertificateRequest r) =
    CertificateRequest (certificate.view_certificate_request r)
view_body (dtls_body.ServerDone b) = ServerDone b.now
view_body (dtls_body.CertificateVerify b) = CertificateVerify b.now
view_body (dtls_body.ClientKeyExchange k) = ClientKeyExchange (session.view_client_key_exchange k)
view_body (dtls_body.Finished b) = Finished b.now
view_body (dtls_body.CertificateStatus s) =
    CertificateStatus (certificate.view_certificate_status s)
view_body (dtls_body.NextProtocol p) = NextProtocol (session.view_next_protocol p)
view_body (dtls_body.Fragment b) = Fragment b.now

-- The body is a fragment.
abbrev pub IsFragment : Body → Type 0
IsFragment (Fragment b) = ⊤
IsFragment b = ⊥

-- The bodies that are parsed. Some take the message's length.
unfoldable pub client_hello_body : Layout Body
client_hello_body = mapped ClientHello dtls_hello.client_hello

unfoldable pub server_hello_body : Layout Body
server_hello_body = mapped ServerHello server_hello.server_hello_any

unfoldable pub hello_verify_request_body : Layout Body
hello_verify_request_body = mapped HelloVerifyRequest dtls_hello.hello_verify_request

unfoldable pub certificate_body : Layout Body
certificate_body = mapped Certificate certificate.certificate

unfoldable pub server_done_body : ℕ → Layout Body
server_done_body length = mapped ServerDone (block length)

unfoldable pub client_key_exchange_body : ℕ → Layout Body
client_key_exchange_body length = mapped (λ b. ClientKeyExchange (session.Unknown b)) (block length)

-- select (HandshakeType) of a body without lists.
unfoldable pub listless_body : ℕ → ℕ → Layout Body
listless_body kind length =
    choose (kind == 2) server_hello_body (
    choose (kind == 3) hello_verify_request_body (
    choose (kind == 14) (server_done_body length) (
    choose (kind == 16) (client_key_exchange_body length) (
    refuse Switch))))

-- select (HandshakeType) of a whole body of this length, in bytes.
unfoldable pub whole_body : ℕ → ℕ → Layout Body
whole_body kind length =
    choose (kind == 1) client_hello_body (
    choose (kind == 11) certificate_body (
    listless_body kind length))

-- A whole body, or a fragment of a body of any type.
unfoldable pub body : ℕ → ℕ → Bool → Layout Body
body kind length is_fragment = choose is_fragment (mapped Fragment rest) (whole_body kind length)

-- The value of a handshake message, regardless of its place in memory.
pub record Handshake : Type 0 where
  pub msg_type : ℕ
  pub length : ℕ
  pub message_seq : ℕ
  pub fragment_offset : ℕ
  pub fragment_length : ℕ
  pub body : Body

abbrev pub view_handshake : DTLSMessageHandshake → Handshake
view_handshake h = record {
  msg_type = h.msg_type.0;
  length = h.length;
  message_seq = h.message_seq;
  fragment_offset = h.fragment_offset;
  fragment_length = h.fragment_length;
  body = view_body h.body;
}

-- HandshakeType msg_type; uint24 length; uint16 message_seq; uint24 fragment_offset; uint24
-- fragment_length; and the body, which is read within the fragment's length.
--
-- The body is a fragment if it begins after the body's first byte, or is shorter than the body (RFC
-- 6347, section 4.2.3). Whether it ends within the body isn't checked.
unfoldable pub handshake : Layout Handshake
handshake = do
  kind ← number 1
  length ← number 3
  seq ← number 2
  offset ← number 3
  fragment_length ← number 3
  b ← window fragment_length (body kind length (nat_lt 0 offset || nat_lt fragment_length length))
  done (record {
    msg_type = kind;
    length = length;
    message_seq = seq;
    fragment_offset = offset;
    fragment_length = fragment_length;
    body = b;
  })

-- The encoding of handshake messages (RFC 5246, section 7.4): fields in order, joined, each length
-- before what it counts. Also which messages can be written, and how each reads back.
use Rattle.std.specs.Prelude.{ℕ, ◌<◌, ◌≤◌, ◌^◌, ◌≡◌, [], ◌∷◌, ◌++◌, length, Option, Some, None, ⊤, ◌==◌, if◌then◌else◌}
use Rattle.std.specs.Option.{IsSome}
use Rattle.std.specs.List.{All}
use Rattle.layouts.specs.Bytes.{Bytes, bytes_of}
use Rattle.layouts.specs.Text.{counted_text, numbers_text, held}
use Rattle.layouts.specs.declared.writer.GenError.{GenError}
use Rattle.layouts.specs.declared.writer.GenError.TheVariants.{NotYetImplemented, BadLength}
use Rattle.tls_hs.specs.Hello as hello
use Rattle.tls_hs.specs.ServerHello as server
use Rattle.tls_hs.specs.Session as session
use Rattle.tls_hs.specs.Handshake.{Handshake, HelloRequest, ClientHello, ServerHello, ServerHelloV13Draft18}
use Rattle.tls_hs.specs.Handshake.{NewSessionTicket, EndOfEarlyData, HelloRetryRequest, Certificate, ServerKeyExchange}
use Rattle.tls_hs.specs.Handshake.{CertificateRequest, ServerDone, CertificateVerify, ClientKeyExchange, Finished}
use Rattle.tls_hs.specs.Handshake.{CertificateStatus, NextProtocol, KeyUpdate}

-- The body of a ClientHello (RFC 5246, section 7.4.1.2).
unfoldable pub client_hello_text : hello.ClientHello → Bytes
client_hello_text h =
    bytes_of 2 h.client_version
    ++ h.random
    ++ counted_text 1 (held h.session_id)
    ++ counted_text 2 (numbers_text 2 h.cipher_suites)
    ++ counted_text 1 (numbers_text 1 h.compression_methods)
    ++ counted_text 2 (held h.extensions)

-- The lengths of the fields can be written.
pub record FitsClientHello (h : hello.ClientHello) : Type 0 where
  pub random : length h.random ≡ 32
  pub session_id : length (held h.session_id) ≤ 32
  pub suites : length h.cipher_suites ≤ 32767
  pub methods : length h.compression_methods ≤ 255
  pub extensions : length (held h.extensions) ≤ 65535

-- The numbers fit their fields, as those of every value in memory do.
pub record InRangeClientHello (h : hello.ClientHello) : Type 0 where
  pub version : h.client_version < 256 ^ 2
  pub suites : All (λ x. x < 256 ^ 2) h.cipher_suites
  pub methods : All (λ x. x < 256 ^ 1) h.compression_methods

-- How a session id reads back: an empty one as None.
abbrev pub normal_id : Option Bytes → Option Bytes
normal_id None = None
normal_id (Some []) = None
normal_id (Some (x ∷ b)) = Some (x ∷ b)

-- How a ClientHello reads back: with extensions, possibly an empty block.
abbrev pub normal_client_hello : hello.ClientHello → hello.ClientHello
normal_client_hello h = record {
  client_version = h.client_version;
  random = h.random;
  session_id = normal_id h.session_id;
  cipher_suites = h.cipher_suites;
  compression_methods = h.compression_methods;
  extensions = Some (held h.extensions);
}

-- The body of a ServerHello up to TLS 1.2 (RFC 5246, section 7.4.1.3).
unfoldable pub server_hello_text : server.ServerHello → Bytes
server_hello_text h =
    bytes_of 2 h.server_version
    ++ h.random
    ++ counted_text 1 (held h.session_id)
    ++ bytes_of 2 h.cipher_suite
    ++ bytes_of 1 h.compression_method
    ++ counted_text 2 (held h.extensions)

pub record FitsServerHello (h : server.ServerHello) : Type 0 where
  pub random : length h.random ≡ 32
  pub session_id : length (held h.session_id) ≤ 32
  pub extensions : length (held h.extensions) ≤ 65535

pub record InRangeServerHello (h : server.ServerHello) : Type 0 where
  pub version : h.server_version < 256 ^ 2
  pub suite : h.cipher_suite < 256 ^ 2
  pub method : h.compression_method < 256 ^ 1

-- How a ServerHello reads back: one of SSL 3.0 without extensions, whatever it had.
abbrev pub normal_server_hello : server.ServerHello → server.ServerHello
normal_server_hello h = record {
  server_version = h.server_version;
  random = h.random;
  session_id = normal_id h.session_id;
  cipher_suite = h.cipher_suite;
  compression_method = h.compression_method;
  extensions = if h.server_version == 0x0300 then None else Some (held h.extensions);
}

-- The body of a ServerHello of draft 18 of TLS 1.3 (draft-ietf-tls-tls13-18, section 4.1.3).
unfoldable pub server_hello_draft18_text : server.ServerHelloDraft18 → Bytes
server_hello_draft18_text h =
    bytes_of 2 h.version ++ h.random ++ bytes_of 2 h.cipher_suite ++ counted_text 2
    (held h.extensions)

pub record FitsServerHelloDraft18 (h : server.ServerHelloDraft18) : Type 0 where
  pub random : length h.random ≡ 32
  pub extensions : length (held h.extensions) ≤ 65535

pub record InRangeServerHelloDraft18 (h : server.ServerHelloDraft18) : Type 0 where
  pub version : h.version < 256 ^ 2
  pub suite : h.cipher_suite < 256 ^ 2

abbrev pub normal_server_hello_draft18 : server.ServerHelloDraft18 → server.ServerHelloDraft18
normal_server_hello_draft18 h = record h { extensions = Some (held h.extensions) }

-- The body of a ClientKeyExchange (RFC 5246, section 7.4.7; RFC 8422, section 5.7). Its bytes don't
-- reveal its form.
abbrev pub client_key_exchange_text : session.ClientKeyExchange → Bytes
client_key_exchange_text (session.Dh b) = counted_text 2 b
client_key_exchange_text (session.Ecdh b) = counted_text 1 b
client_key_exchange_text (session.Unknown b) = b

abbrev pub FitsClientKeyExchange : session.ClientKeyExchange → Type 0
FitsClientKeyExchange (session.Dh b) = length b ≤ 65535
FitsClientKeyExchange (session.Ecdh b) = length b ≤ 255
FitsClientKeyExchange (session.Unknown b) = ⊤

-- The HandshakeType of a message (RFC 5246, section 7.4).
abbrev pub msg_type_of : Handshake → ℕ
msg_type_of HelloRequest = 0
msg_type_of (ClientHello h) = 1
msg_type_of (ServerHello h) = 2
msg_type_of (ServerHelloV13Draft18 h) = 2
msg_type_of (NewSessionTicket t) = 4
msg_type_of EndOfEarlyData = 5
msg_type_of (HelloRetryRequest r) = 6
msg_type_of (Certificate c) = 11
msg_type_of (ServerKeyExchange b) = 12
msg_type_of (CertificateRequest r) = 13
msg_type_of (ServerDone b) = 14
msg_type_of (CertificateVerify b) = 15
msg_type_of (ClientKeyExchange k) = 16
msg_type_of (Finished b) = 20
msg_type_of (CertificateStatus s) = 22
msg_type_of (NextProtocol p) = 67
msg_type_of (KeyUpdate n) = 24

-- The body of a message of a kind that the writer knows. Other kinds have no encoding.
abbrev pub body_text : Handshake → Bytes
body_text (ClientHello h) = client_hello_text h
body_text (ServerHello h) = server_hello_text h
body_text (ServerHelloV13Draft18 h) = server_hello_draft18_text h
body_text (ClientKeyExchange k) = client_key_exchange_text k
body_text (Finished b) = b
body_text m = []

-- The writer knows the kind, and the lengths of the body's fields can be written.
abbrev pub FitsBody : Handshake → Type 0
FitsBody HelloRequest = ⊤
FitsBody (ClientHello h) = FitsClientHello h
FitsBody (ServerHello h) = FitsServerHello h
FitsBody (ServerHelloV13Draft18 h) = FitsServerHelloDraft18 h
FitsBody (ClientKeyExchange k) = FitsClientKeyExchange k
FitsBody (Finished b) = ⊤
FitsBody m = ⊥

abbrev pub InRangeHandshake : Handshake → Type 0
InRangeHandshake (ClientHello h) = InRangeClientHello h
InRangeHandshake (ServerHello h) = InRangeServerHello h
InRangeHandshake (ServerHelloV13Draft18 h) = InRangeServerHelloDraft18 h
InRangeHandshake m = ⊤

-- HandshakeType msg_type; uint24 length; the body.
abbrev pub handshake_text : Handshake → Bytes
handshake_text m = bytes_of 1 (msg_type_of m) ++ counted_text 3 (body_text m)

-- The message can be written.
pub record FitsHandshake (m : Handshake) : Type 0 where
  pub body : FitsBody m
  pub length : length (body_text m) ≤ 16777215

-- Why a message that can't be written is refused.
abbrev pub refusal_of_handshake : Handshake → GenError
refusal_of_handshake HelloRequest = BadLength
refusal_of_handshake (ClientHello h) = BadLength
refusal_of_handshake (ServerHello h) = BadLength
refusal_of_handshake (ServerHelloV13Draft18 h) = BadLength
refusal_of_handshake (ClientKeyExchange k) = BadLength
refusal_of_handshake (Finished b) = BadLength
refusal_of_handshake m = NotYetImplemented

-- The writer knows the kind. So if it can't be written, a length is at fault.
abbrev pub IsKnown : Handshake → Type 0
IsKnown m = refusal_of_handshake m ≡ BadLength

-- The writer doesn't know the kind.
abbrev pub IsUnknown : Handshake → Type 0
IsUnknown m = (FitsBody m → ⊥) × (refusal_of_handshake m ≡ NotYetImplemented)

-- The version of a ServerHello is one whose form reads back.
abbrev pub IsReadableHandshake : Handshake → Type 0
IsReadableHandshake (ServerHello h) = (0x0300 ≤ h.server_version) × (h.server_version ≤ 0x0303)
IsReadableHandshake (ServerHelloV13Draft18 h) = h.version ≡ 0x7f12
IsReadableHandshake m = ⊤

-- How a handshake message reads back.
abbrev pub normal_handshake : Handshake → Handshake
normal_handshake (ClientHello h) = ClientHello (normal_client_hello h)
normal_handshake (ServerHello h) = ServerHello (normal_server_hello h)
normal_handshake (ServerHelloV13Draft18 h) = ServerHelloV13Draft18 (normal_server_hello_draft18 h)
normal_handshake (ClientKeyExchange k) =
    ClientKeyExchange (session.Unknown (client_key_exchange_text k))
normal_handshake m = m

-- The writer knows the kind, and a hello has extensions. So bytes that are read as this message,
-- with nothing dropped, are what the writer writes for it.
abbrev pub IsWrittenBack : Handshake → Type 0
IsWrittenBack HelloRequest = ⊤
IsWrittenBack (ClientHello h) = IsSome h.extensions
IsWrittenBack (ServerHello h) = IsSome h.extensions
IsWrittenBack (ServerHelloV13Draft18 h) = IsSome h.extensions
IsWrittenBack (ClientKeyExchange k) = ⊤
IsWrittenBack (Finished b) = ⊤
IsWrittenBack m = ⊥

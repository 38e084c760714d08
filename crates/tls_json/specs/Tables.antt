-- The fields of messages in order, by the names of the RFCs.
use Rattle.std.specs.Prelude.{◌++◌, ◌==◌, if◌then◌else◌, ℕ, Bool, true, false, List, [], ◌∷◌, codes, Option, Some, None}
use Rattle.std.specs.Borrow.{Bor}
use Rattle.serde_json.specs.Data.{Data}
use Rattle.layouts.specs.Items.{left_in}
use Rattle.layouts.specs.Layout.{counted}
use Rattle.tls_ext.specs.InPlace.{raw_extension}
use Rattle.tls_key_exchange.specs.declared.ec.ECParametersContent as content_of
use Rattle.tls_key_exchange.specs.declared.ec.ECParametersContent.TheVariants as content
use Rattle.tls_key_exchange.specs.declared.ec.ECParameters.{ECParameters}
use Rattle.tls_key_exchange.specs.declared.ec.ExplicitPrimeContent.{ExplicitPrimeContent}
use Rattle.tls_key_exchange.specs.declared.ec.ServerECDHParams.{ServerECDHParams}
use Rattle.tls_key_exchange.specs.declared.dh.ServerDHParams.{ServerDHParams}
use Rattle.tls_hs.specs.declared.client_hello_view.ClientHelloView.{ClientHelloView}
use Rattle.tls_hs.specs.declared.server_hello.TlsServerHelloContents.{TlsServerHelloContents}
use Rattle.tls_hs.specs.declared.server_hello.TlsServerHelloV13Draft18Contents.{TlsServerHelloV13Draft18Contents}
use Rattle.tls_hs.specs.declared.server_hello.TlsHelloRetryRequestContents.{TlsHelloRetryRequestContents}
use Rattle.tls_hs.specs.declared.certificate_view.CertificateRequestView.{CertificateRequestView}
use Rattle.tls_hs.specs.declared.certificate.TlsCertificateStatusContents.{TlsCertificateStatusContents}
use Rattle.tls_hs.specs.declared.message.TlsMessageHeartbeat.{TlsMessageHeartbeat}
use Rattle.tls_base.specs.declared.suite_exchange.KeyExchange.{KeyExchange}
use Rattle.tls_base.specs.declared.suite_exchange.Public.{Public}
use Rattle.tls_base.specs.declared.suite_exchange.Public.TheVariants.{Nothing, Rsa, Dh, Ecdh}
use Rattle.tls_json.specs.declared.suite.SuiteText.{SuiteText}
use Rattle.tls_json.specs.Outline.{
  Entries,
  object_of,
  decimal,
  hexadecimal,
  suite,
  bytes,
  list,
  some_decimal,
  some_hexadecimal,
  some_bytes,
  bytes_if,
  some_name,
}
use Rattle.tls_json.specs.Responses.{response_data}

-- A handshake message (RFC 5246, section 7.4; of DTLS RFC 6347, section 4.2.2) whose body has n
-- bytes.
abbrev pub message_fields : ℕ → Option (Bor (List ℕ)) → ℕ → Option ℕ → Data → List ℕ → Data
message_fields msg_type name n message_seq body rest = object_of (
    decimal (codes "msg_type") msg_type
    ∷ some_name (codes "name") name
    ++ decimal (codes "length") n ∷ []
    ++ some_decimal (codes "message_seq") message_seq
    ++ (codes "body", body) ∷ []
    ++ some_bytes (codes "rest") rest)

-- Extension extensions<0..2^16-1> (RFC 8446, section 4.2), and what follows the last whole one.
abbrev pub extensions_fields : Option (Bor (List ℕ)) → Entries
extensions_fields None = []
extensions_fields (Some block) =
    list (codes "extensions") ∷ some_bytes (codes "rest") (left_in raw_extension block.now)

-- An extension (RFC 8446, section 4.2).
abbrev pub extension_fields : ℕ → Option (Bor (List ℕ)) → Data → Data
extension_fields extension_type name extension_data = object_of (
    decimal (codes "extension_type") extension_type
    ∷ some_name (codes "name") name
    ++ (codes "extension_data", extension_data)
    ∷ [])

-- A session's id, empty if there is none.
abbrev pub id_bytes : Option (Bor (List ℕ)) → List ℕ
id_bytes None = []
id_bytes (Some id) = id.now

-- A ClientHello (RFC 5246, section 7.4.1.2). One of DTLS has a cookie (RFC 6347, section 4.2.1).
abbrev pub client_hello_fields : ClientHelloView → Option (Bor (List ℕ)) → Data
client_hello_fields hello cookie = object_of (
    hexadecimal (codes "client_version") hello.version.0
    ∷ bytes (codes "random") hello.random.now
    ∷ bytes (codes "session_id") (id_bytes hello.session_id)
    ∷ bytes_if (codes "cookie") cookie
    ++ list (codes "cipher_suites") ∷ []
    ++ list (codes "compression_methods") ∷ []
    ++ extensions_fields hello.ext)

-- A ServerHello (RFC 5246, section 7.4.1.3).
abbrev pub server_hello_fields : SuiteText → TlsServerHelloContents → Data
server_hello_fields text hello = object_of (
    hexadecimal (codes "server_version") hello.version.0
    ∷ bytes (codes "random") hello.random.now
    ∷ bytes (codes "session_id") (id_bytes hello.session_id)
    ∷ suite (codes "cipher_suite") text hello.cipher.0
    ∷ decimal (codes "compression_method") hello.compression.0
    ∷ extensions_fields hello.ext)

-- A ServerHello of draft 18 of TLS 1.3 (draft-ietf-tls-tls13-18, section 4.1.3).
abbrev pub draft_hello_fields : SuiteText → TlsServerHelloV13Draft18Contents → Data
draft_hello_fields text hello = object_of (
    hexadecimal (codes "server_version") hello.version.0
    ∷ bytes (codes "random") hello.random.now
    ∷ suite (codes "cipher_suite") text hello.cipher.0
    ∷ extensions_fields hello.ext)

-- A HelloRetryRequest (draft-ietf-tls-tls13-19, section 4.1.4).
abbrev pub retry_fields : SuiteText → TlsHelloRetryRequestContents → Data
retry_fields text request = object_of (
    hexadecimal (codes "server_version") request.version.0
    ∷ suite (codes "cipher_suite") text request.cipher.0
    ∷ extensions_fields request.ext)

-- A certificate chain (RFC 5246, section 7.4.2) in the bytes b of its list: the certificates'
-- bytes, their fields, and what follows the last whole one.
abbrev pub chain_fields : List ℕ → Data
chain_fields b = object_of (
    list (codes "certificate_list")
    ∷ list (codes "certificates")
    ∷ some_bytes (codes "rest") (left_in (counted 3) b))

-- A list, if there is one.
abbrev pub list_if : {A : Type 0} → List ℕ → Option A → Entries
list_if name None = []
list_if name (Some x) = list name ∷ []

-- A CertificateRequest (RFC 5246, section 7.4.4), and what follows the last whole authority.
abbrev pub request_fields : CertificateRequestView → Data
request_fields request = object_of (
    list (codes "certificate_types")
    ∷ list_if (codes "supported_signature_algorithms") request.sig_hash_algs
    ++ list (codes "certificate_authorities") ∷ []
    ++ some_bytes (codes "rest") (left_in (counted 2) request.unparsed_ca.bytes.now))

-- A NewSessionTicket (RFC 5077, section 3.3).
abbrev pub ticket_fields : ℕ → List ℕ → Data
ticket_fields hint ticket =
    object_of (decimal (codes "ticket_lifetime_hint") hint ∷ bytes (codes "ticket") ticket ∷ [])

-- A CertificateStatus (RFC 6066, section 8): the response's bytes, and its fields if it is an
-- OCSPResponse, which has type 1.
abbrev pub ocsp_entries : ℕ → List ℕ → Entries
ocsp_entries status_type response =
    if status_type == 1 then (codes "ocsp_response", response_data response) ∷ [] else []

abbrev pub status_fields : TlsCertificateStatusContents → Data
status_fields status = object_of (
    decimal (codes "status_type") status.status_type
    ∷ bytes (codes "response") status.blob.now
    ∷ ocsp_entries status.status_type status.blob.now)

-- A NextProtocol (draft-agl-tls-nextprotoneg-04, section 3).
abbrev pub next_protocol_names : List (List ℕ)
next_protocol_names = codes "selected_protocol" ∷ codes "padding" ∷ []

-- A HelloVerifyRequest (RFC 6347, section 4.2.1).
abbrev pub verify_request_fields : ℕ → List ℕ → Data
verify_request_fields version cookie = object_of (
    hexadecimal (codes "server_version") version
    ∷ bytes (codes "cookie") cookie
    ∷ [])

-- A Finished (RFC 5246, section 7.4.9).
abbrev pub finished_fields : List ℕ → Data
finished_fields verify_data = object_of (bytes (codes "verify_data") verify_data ∷ [])

-- A KeyUpdate (RFC 8446, section 4.6.3).
abbrev pub key_update_fields : ℕ → Data
key_update_fields request_update = object_of (decimal (codes "request_update") request_update ∷ [])

-- The coefficients of a curve (RFC 4492, section 5.4).
abbrev pub coefficients_fields : List ℕ → List ℕ → Data
coefficients_fields a b = object_of (bytes (codes "a") a ∷ bytes (codes "b") b ∷ [])

-- A curve by its parameters (RFC 4492, section 5.4).
abbrev pub explicit_prime_fields : ℕ → ExplicitPrimeContent → Data
explicit_prime_fields curve_type content = object_of (
    decimal (codes "curve_type") curve_type
    ∷ bytes (codes "prime_p") content.prime_p.now
    ∷ (codes "curve", coefficients_fields content.curve.a.now content.curve.b.now)
    ∷ bytes (codes "base") content.base.point.now
    ∷ bytes (codes "order") content.order.now
    ∷ bytes (codes "cofactor") content.cofactor.now
    ∷ [])

-- A curve by its number (RFC 8422, section 5.4).
abbrev pub named_curve_fields : ℕ → ℕ → Data
named_curve_fields curve_type namedcurve = object_of (
    decimal (codes "curve_type") curve_type
    ∷ hexadecimal (codes "namedcurve") namedcurve
    ∷ [])

abbrev pub curve_content_fields : ℕ → content_of.ECParametersContent → Data
curve_content_fields curve_type (content.ExplicitPrime prime) =
    explicit_prime_fields curve_type prime
curve_content_fields curve_type (content.NamedGroup group) = named_curve_fields curve_type group.0

abbrev pub curve_fields : ECParameters → Data
curve_fields parameters = curve_content_fields parameters.curve_type.0 parameters.params_content

-- A server's public values of finite-field Diffie-Hellman (RFC 5246, section 7.4.3).
abbrev pub dh_fields : ServerDHParams → Data
dh_fields values = object_of (
    bytes (codes "dh_p") values.dh_p.now
    ∷ bytes (codes "dh_g") values.dh_g.now
    ∷ bytes (codes "dh_Ys") values.dh_ys.now
    ∷ [])

-- A server's public values of elliptic-curve Diffie-Hellman (RFC 8422, section 5.4).
abbrev pub ecdh_fields : ServerECDHParams → Data
ecdh_fields values = object_of (
    (codes "curve_params", curve_fields values.curve_params)
    ∷ bytes (codes "public") values.public.point.now
    ∷ [])

-- A signature (RFC 5246, section 4.7), which names its algorithm from TLS 1.2 on.
abbrev pub signature_fields : Option ℕ → List ℕ → Data
signature_fields algorithm signature = object_of (
    some_hexadecimal (codes "algorithm") algorithm
    ++ bytes (codes "signature") signature
    ∷ [])

-- An alert (RFC 8446, section 6).
abbrev pub alert_entries : ℕ → ℕ → Option (Bor (List ℕ)) → Entries
alert_entries level description name =
    decimal (codes "level") level ∷ decimal (codes "description") description ∷ some_name
    (codes "name") name

abbrev pub alert_fields : ℕ → ℕ → Option (Bor (List ℕ)) → Data
alert_fields level description name = object_of (alert_entries level description name)

-- A ChangeCipherSpec (RFC 5246, section 7.1).
abbrev pub change_fields : ℕ → Data
change_fields kind = object_of (decimal (codes "type") kind ∷ [])

-- A heartbeat (RFC 6520, section 4).
abbrev pub heartbeat_fields : TlsMessageHeartbeat → List ℕ → Data
heartbeat_fields message padding = object_of (
    decimal (codes "type") message.heartbeat_type.0
    ∷ decimal (codes "payload_length") message.payload_len
    ∷ bytes (codes "payload") message.payload.now
    ∷ bytes (codes "padding") padding
    ∷ [])

-- A name, if the condition holds.
abbrev pub names_if : Bool → List ℕ → List (List ℕ)
names_if false name = []
names_if true name = name ∷ []

-- A server's public values (RFC 5246, section 7.4.3; RFC 8422, section 5.4).
abbrev pub params_names : Public → List (List ℕ)
params_names Nothing = []
params_names Rsa = []
params_names Dh = codes "params" ∷ []
params_names Ecdh = codes "params" ∷ []

-- A ServerKeyExchange (RFC 5246, section 7.4.3; RFC 8422, section 5.4; RFC 4279, sections 2 to 4;
-- RFC 5489, section 2).
abbrev pub server_key_exchange_names : KeyExchange → List (List ℕ)
server_key_exchange_names exchange =
    names_if exchange.has_identity (codes "psk_identity_hint")
    ++ params_names exchange.public
    ++ names_if exchange.is_signed (codes "signed_params")

-- A client's public value, or its encrypted secret (RFC 5246, section 7.4.7; RFC 8422, section
-- 5.7).
abbrev pub client_value_names : Public → List (List ℕ)
client_value_names Nothing = []
client_value_names Rsa = codes "pre_master_secret" ∷ []
client_value_names Dh = codes "dh_Yc" ∷ []
client_value_names Ecdh = codes "ecdh_Yc" ∷ []

-- A ClientKeyExchange (RFC 5246, section 7.4.7; RFC 8422, section 5.7; RFC 4279, sections 2 to 4;
-- RFC 5489, section 2).
abbrev pub client_key_exchange_names : KeyExchange → List (List ℕ)
client_key_exchange_names exchange =
    names_if exchange.has_identity (codes "psk_identity") ++ client_value_names exchange.public

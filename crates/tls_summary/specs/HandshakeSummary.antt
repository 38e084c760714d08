-- The summary of a connection, from both sides' messages and alerts.
use Rattle.std.specs.Prelude.{◌≡◌, ℕ, Bool, true, false, not, ◌&&◌, ◌||◌, ◌==◌, if◌then◌else◌, List, [], ◌∷◌, Option, Some, None, is_some, option_map, Ok, Err, length}
use Rattle.layouts.specs.Bytes.{Bytes}
use Rattle.layouts.specs.Items.{items_in}
use Rattle.layouts.specs.Layout.{number}
use Rattle.layouts.specs.Meaning.{Answer}
use Rattle.layouts.specs.Reading.{reading}
use Rattle.layouts.specs.Text.{held}
use Rattle.ssl2_hello.specs.ClientHello as ssl2
use Rattle.tls_hs.specs.Certificate.{CertificateStatus, certificate, certificate_status}
use Rattle.tls_hs.specs.Handshake as handshakes
use Rattle.tls_hs.specs.Hello as client
use Rattle.tls_hs.specs.ServerHello as server
use Rattle.dtls_records.specs.DtlsHello as datagram
use Rattle.tls_flow.specs.Bytes.{HandshakeMessage, datagram_message, message_of}
use Rattle.tls_flow.specs.declared.symbol.Direction.{Direction as Side}
use Rattle.tls_flow.specs.declared.symbol.Direction.TheVariants.{ToServer, FromServer}
use Rattle.tls_flow.specs.declared.symbol.Kind.{Kind}
use Rattle.tls_flow.specs.declared.symbol.Kind.TheVariants as kind
use Rattle.tls_summary.specs.ChainOrder.{chain_order}
use Rattle.tls_summary.specs.Encrypted.{encrypted_client_hello}
use Rattle.tls_summary.specs.Exchange.{curve_by, prime_bits_by}
use Rattle.tls_summary.specs.Hellos.{has, share_group_in, value_in}
use Rattle.tls_summary.specs.Parts.{summaries_of_all, first_of, ocsp_response_in, view_client, view_server}
use Rattle.tls_summary.specs.declared.summary.HandshakeSummary as rust
use Rattle.tls_summary.specs.declared.parts.CertificateSummary.{CertificateSummary}

pub record HandshakeSummary : Type 0 where
  -- the ClientHello that was answered or will be, and the ServerHello that answers it
  pub client : Option client.ClientHello
  pub server : Option server.ServerHello
  -- the group of the key exchange, from the server's key share or its ServerKeyExchange
  pub curve : Option ℕ
  -- the length of the prime in the ServerKeyExchange, in bits
  pub dh_bits : Option ℕ
  -- the last Certificate of each side, and its end-entity certificate
  pub client_certificates : Option (List CertificateSummary)
  pub server_certificates : Option (List CertificateSummary)
  pub client_certificate : Option Bytes
  pub server_certificate : Option Bytes
  -- whether the certificates of each side are in order
  pub client_chain_order : Option Bool
  pub server_chain_order : Option Bool
  -- whether the server asked for another ClientHello that hasn't come yet
  pub is_asked_again : Bool
  -- whether a HelloRetryRequest came, a CertificateRequest, a CertificateStatus, a NewSessionTicket
  pub is_retried : Bool
  pub requests_certificate : Bool
  pub has_status : Bool
  pub has_ticket : Bool
  -- the OCSP response in the server's CertificateStatus
  pub ocsp_response : Option Bytes
  -- the lifetime in the server's last NewSessionTicket, in seconds
  pub ticket_lifetime_hint : Option ℕ
  -- whether a ClientHello that another one replaced had encrypted_client_hello
  pub had_encrypted_hello : Bool
  -- the description of the last alert
  pub last_alert : Option ℕ
  -- the CipherSpecs of a ClientHello of SSL 2.0's form
  pub ssl2_cipher_specs : Option (List ℕ)

abbrev pub view_summary : rust.HandshakeSummary → HandshakeSummary
view_summary f = record {
  client = option_map view_client f.client;
  server = option_map view_server f.server;
  curve = option_map (λ g. g.0) f.curve;
  dh_bits = f.dh_bits;
  client_certificates = option_map (λ v. v.items) f.client_certificates;
  server_certificates = option_map (λ v. v.items) f.server_certificates;
  client_certificate = option_map (λ v. v.items) f.client_certificate;
  server_certificate = option_map (λ v. v.items) f.server_certificate;
  client_chain_order = f.client_chain_order;
  server_chain_order = f.server_chain_order;
  is_asked_again = f.is_asked_again;
  is_retried = f.is_retried;
  requests_certificate = f.requests_certificate;
  has_status = f.has_status;
  has_ticket = f.has_ticket;
  ocsp_response = option_map (λ v. v.items) f.ocsp_response;
  ticket_lifetime_hint = f.ticket_lifetime_hint;
  had_encrypted_hello = f.had_encrypted_hello;
  last_alert = option_map (λ a. a.0) f.last_alert;
  ssl2_cipher_specs = option_map (λ v. items_in (number 3) v.items) f.ssl2_cipher_specs;
}

-- Nothing was sent.
abbrev pub nothing : HandshakeSummary
nothing = record {
  client = None;
  server = None;
  curve = None;
  dh_bits = None;
  client_certificates = None;
  server_certificates = None;
  client_certificate = None;
  server_certificate = None;
  client_chain_order = None;
  server_chain_order = None;
  is_asked_again = false;
  is_retried = false;
  requests_certificate = false;
  has_status = false;
  has_ticket = false;
  ocsp_response = None;
  ticket_lifetime_hint = None;
  had_encrypted_hello = false;
  last_alert = None;
  ssl2_cipher_specs = None;
}

-- The client sent its hello and wasn't asked for another.
abbrev pub has_asked : HandshakeSummary → Bool
has_asked f = is_some f.client && not f.is_asked_again

abbrev pub extensions_of_client : Option client.ClientHello → Bytes
extensions_of_client None = []
extensions_of_client (Some h) = held h.extensions

-- A ClientHello has encrypted_client_hello (RFC 9849, section 5).
abbrev pub has_encrypted : Option client.ClientHello → Bool
has_encrypted h = has encrypted_client_hello (extensions_of_client h)

-- The client's first ClientHello is kept until the one that it is asked for (RFC 8446, section
-- 4.1.2; RFC 6347, section 4.2.1), which replaces it entirely. One that nobody asked for is ignored
-- (RFC 5246, section 7.4.1.2), and so is one from the server.
abbrev pub asked : Side → client.ClientHello → HandshakeSummary → HandshakeSummary
asked ToServer h f =
    if has_asked f then f
    else record f {
      client = Some h;
      is_asked_again = not (is_some f.client) && f.is_asked_again;
      had_encrypted_hello = f.had_encrypted_hello || has_encrypted f.client;
      ssl2_cipher_specs = None;
    }
asked FromServer h f = f

-- A ClientHello of SSL 2.0's form (RFC 5246, appendix E.2): the challenge is its random, it has no
-- compression methods and no extensions, and its CipherSpecs have three bytes.
abbrev pub id_of : Bytes → Option Bytes
id_of [] = None
id_of (n ∷ b) = Some (n ∷ b)

abbrev pub of_ssl2 : ssl2.ClientHello → client.ClientHello
of_ssl2 h = record {
  client_version = h.version;
  random = h.challenge;
  session_id = id_of h.session_id;
  cipher_suites = [];
  compression_methods = [];
  extensions = None;
}

abbrev pub asked_in_ssl2 : Side → ssl2.ClientHello → HandshakeSummary → HandshakeSummary
asked_in_ssl2 ToServer h f =
    if has_asked f then
    f else record (asked ToServer (of_ssl2 h) f) { ssl2_cipher_specs = Some h.cipher_specs }
asked_in_ssl2 FromServer h f = f

-- The server asks for another ClientHello with a HelloRetryRequest (RFC 8446, section 4.1.4): once,
-- before its ServerHello.
abbrev pub retried : Side → HandshakeSummary → HandshakeSummary
retried ToServer f = f
retried FromServer f =
    if is_some f.server || f.is_retried then
    f else record f { is_asked_again = true; is_retried = true }

-- In DTLS it may ask with a HelloVerifyRequest (RFC 6347, section 4.2.1), more than once.
abbrev pub verified : Side → HandshakeSummary → HandshakeSummary
verified ToServer f = f
verified FromServer f = if is_some f.server then f else record f { is_asked_again = true }

-- The server's first ServerHello is kept (RFC 8446, section 4.1.3), with the group of its key
-- share. A HelloRetryRequest chooses nothing yet. A second ServerHello is ignored, and so is one
-- from the client.
abbrev pub chosen : Side → server.ServerHello → HandshakeSummary → HandshakeSummary
chosen ToServer h f = f
chosen FromServer h f =
    if server.is_retry_request h then retried FromServer f
    else if is_some f.server then f
    else record f { server = Some h; curve = share_group_in (held h.extensions) }

-- A hello that doesn't belong to the handshake: its receiver didn't ask for it, or it comes from
-- the wrong side. The receiver aborts the handshake with an alert unexpected_message, or drops it
-- (RFC 8446, sections 4.1.2 and 4.1.4). The summary ignores it.
abbrev pub is_stray : Side → Kind → HandshakeSummary → Bool
is_stray ToServer kind.ClientHello f = has_asked f
is_stray FromServer kind.ClientHello f = true
is_stray ToServer kind.ServerHello f = true
is_stray ToServer kind.ServerHello13 f = true
is_stray ToServer kind.HelloRetryRequest f = true
is_stray FromServer kind.ServerHello f = is_some f.server
is_stray FromServer kind.ServerHello13 f = is_some f.server
is_stray FromServer kind.HelloRetryRequest f = is_some f.server || f.is_retried
is_stray s k f = false

-- The fields that a ServerHello of a draft of TLS 1.3 lacks are empty (draft-ietf-tls-tls13-18,
-- section 4.1.3).
abbrev pub of_draft : server.ServerHelloDraft18 → server.ServerHello
of_draft h = record {
  server_version = h.version;
  random = h.random;
  session_id = None;
  cipher_suite = h.cipher_suite;
  compression_method = 0;
  extensions = h.extensions;
}

-- The curve of a ServerKeyExchange, or the length of its prime, by the chosen suite.
abbrev pub exchanged_by : Option server.ServerHello → Bytes → HandshakeSummary → HandshakeSummary
exchanged_by None b f = f
exchanged_by (Some h) b f = record f {
  curve = curve_by h.cipher_suite b f.curve;
  dh_bits = prime_bits_by h.cipher_suite b f.dh_bits;
}

abbrev pub exchanged : Bytes → HandshakeSummary → HandshakeSummary
exchanged b f = exchanged_by f.server b f

-- The last Certificate of this side; the end-entity certificate comes first (RFC 5246, section
-- 7.4.2).
abbrev pub with_chain : Side → List CertificateSummary → Option Bytes → Option Bool
    → HandshakeSummary → HandshakeSummary
with_chain ToServer chain own order f =
    record f {
      client_certificates = Some chain;
      client_certificate = own;
      client_chain_order = order;
    }
with_chain FromServer chain own order f =
    record f {
      server_certificates = Some chain;
      server_certificate = own;
      server_chain_order = order;
    }

abbrev pub certified : Side → Answer (List Bytes) → HandshakeSummary → HandshakeSummary
certified s (Ok x) f = with_chain s (summaries_of_all x.0) (first_of x.0) (chain_order x.0) f
certified s (Err e) f = f

-- The response in the server's CertificateStatus (RFC 6066, section 8): the first one is kept, as it
-- is. Only the server sends one.
abbrev pub first_response : Option Bytes → Answer CertificateStatus → Option Bytes
first_response (Some response) a = Some response
first_response None a = ocsp_response_in a

abbrev pub stapled : Side → Answer CertificateStatus → HandshakeSummary → HandshakeSummary
stapled ToServer a f = record f { has_status = true }
stapled FromServer a f =
    record f { has_status = true; ocsp_response = first_response f.ocsp_response a }

-- A NewSessionTicket begins with the ticket's lifetime, in 4 bytes (RFC 5077, section 3.3). Only
-- the server sends one.
abbrev pub ticketed : Side → Bytes → HandshakeSummary → HandshakeSummary
ticketed ToServer b f = record f { has_ticket = true }
ticketed FromServer b f =
    record f { has_ticket = true; ticket_lifetime_hint = value_in (reading (number 4) b) }

-- The update by a message that isn't a hello, from its side, type and body (RFC 5246, section 7.4).
-- A HelloRetryRequest with a message type belongs to the drafts of TLS 1.3
-- (draft-ietf-tls-tls13-19, section 4.1.4).
abbrev pub of_other : Side → ℕ → Bytes → HandshakeSummary → HandshakeSummary
of_other s n b f =
    if n == 4 then ticketed s b f
    else if n == 6 then retried s f
    else if n == 11 then certified s (reading certificate b) f
    else if n == 12 then exchanged b f
    else if n == 13 then record f { requests_certificate = true }
    else if n == 22 then stapled s (reading certificate_status b) f
    else f

abbrev pub of_client_hello : Side → Answer client.ClientHello → HandshakeSummary → HandshakeSummary
of_client_hello s (Ok x) f = asked s x.0 f
of_client_hello s (Err e) f = f

-- The update by a ServerHello, in the form of its version.
abbrev pub of_server_hello : Side → Option handshakes.Handshake → HandshakeSummary
    → HandshakeSummary
of_server_hello s (Some (handshakes.ServerHello h)) f = chosen s h f
of_server_hello s (Some (handshakes.ServerHelloV13Draft18 h)) f = chosen s (of_draft h) f
of_server_hello s _ f = f

-- The update by a message of TLS. If its body is refused, nothing changes, as far as it is parsed.
abbrev pub of_message : Side → HandshakeMessage → HandshakeSummary → HandshakeSummary
of_message s m f =
    if m.msg_type == 1 then of_client_hello s (reading client.client_hello m.body) f
    else if m.msg_type == 2 then of_server_hello s m.server_hello f
    else of_other s m.msg_type m.body f

abbrev pub of_message_if : Side → Option HandshakeMessage → HandshakeSummary → HandshakeSummary
of_message_if s (Some m) f = of_message s m f
of_message_if s None f = f

-- The update by the bytes of a whole handshake message.
abbrev pub of_bytes : Side → Bytes → HandshakeSummary → HandshakeSummary
of_bytes s b f = of_message_if s (message_of b) f

-- A second hello only counts if it parses to its end: its receiver aborts the handshake if bytes
-- follow (RFC 5246, section 7.4.1.2).
abbrev pub is_behind_first : Bytes → HandshakeSummary → Bool
is_behind_first rest f = is_some f.client && not (length rest == 0)

abbrev pub of_datagram_client_hello : Side → Answer datagram.ClientHello → HandshakeSummary
    → HandshakeSummary
of_datagram_client_hello s (Ok x) f = if is_behind_first x.1 f then f else asked s x.0.hello f
of_datagram_client_hello s (Err e) f = f

-- The update by a message of DTLS (RFC 6347, section 4.2): its ClientHello has a cookie, which the
-- HelloVerifyRequest gives, and its version numbers differ from those of TLS.
abbrev pub of_datagrams : Side → HandshakeMessage → HandshakeSummary → HandshakeSummary
of_datagrams s m f =
    if m.msg_type == 1 then of_datagram_client_hello s (reading datagram.client_hello m.body) f
    else if m.msg_type == 2 then of_server_hello s m.server_hello f
    else if m.msg_type == 3 then verified s f
    else of_other s m.msg_type m.body f

-- The update by a message of DTLS, from its type and its body.
abbrev pub of_datagram_message : Side → ℕ → Bytes → HandshakeSummary → HandshakeSummary
of_datagram_message s n b f = of_datagrams s (datagram_message n b) f

-- The update by an alert.
abbrev pub of_alert : ℕ → HandshakeSummary → HandshakeSummary
of_alert n f = record f { last_alert = Some n }

-- A side's messages don't change the other side's hello; nor its own hello once that was sent,
-- unless the server asks for another.
abbrev pub KeepsHellos : Side → HandshakeSummary → HandshakeSummary → Type 0
KeepsHellos ToServer f g =
    (g.server ≡ f.server)
    × (has_asked f ≡ true → (g.client ≡ f.client) × (g.is_asked_again ≡ f.is_asked_again))
KeepsHellos FromServer f g = (g.client ≡ f.client) × (is_some f.server ≡ true → g.server ≡ f.server)

-- Handshake messages in place: their values are those of the messages with lists.
use Rattle.std.specs.Prelude.{ℕ, List, Option, Result, Ok, Err, length}
use Rattle.std.specs.Borrow.{Bor}
use Rattle.std.specs.Option.{option_map}
use Rattle.layouts.specs.Bytes.{Bytes}
use Rattle.layouts.specs.Layout.{Layout, number, counted}
use Rattle.layouts.specs.Meaning.{Refusal}
use Rattle.layouts.specs.Reading.{reading, ◌and_then◌}
use Rattle.layouts.specs.Answers.{Returned}
use Rattle.layouts.specs.Items.{items_in, value_of}
use Rattle.layouts.specs.Framed.{Framed, framed}
use Rattle.tls_hs.specs.Hello.{ClientHello}
use Rattle.tls_hs.specs.Certificate.{CertificateRequest}
use Rattle.tls_hs.specs.Handshake as handshakes
use Rattle.tls_hs.specs.Handshake.{Handshake, view_handshake, handshake_body}
use Rattle.tls_hs.specs.Message as message
use Rattle.tls_hs.specs.Message.{Message}
use Rattle.tls_hs.specs.declared.client_hello_view.ClientHelloView.{ClientHelloView}
use Rattle.tls_hs.specs.declared.certificate_view.CertificateRequestView.{CertificateRequestView}
use Rattle.tls_hs.specs.declared.handshake.TlsMessageHandshake.{TlsMessageHandshake}
use Rattle.tls_hs.specs.declared.handshake_view.HandshakeView.{HandshakeView}
use Rattle.tls_hs.specs.declared.handshake_view.HandshakeView.TheVariants as in_place
use Rattle.tls_hs.specs.declared.handshake_view.RawHandshake.{RawHandshake}

abbrev pub view_client_hello_in_place : ClientHelloView → ClientHello
view_client_hello_in_place h = record {
  client_version = h.version.0;
  random = h.random.now;
  session_id = option_map (λ x. x.now) h.session_id;
  cipher_suites = items_in (number 2) h.ciphers.bytes.now;
  compression_methods = items_in (number 1) h.comp.bytes.now;
  extensions = option_map (λ x. x.now) h.ext;
}

-- The fields of a hello in place, with a cookie if it has one.
abbrev pub view_fields_in_place : ClientHelloView × Option (Bor (List ℕ))
    → ClientHello × Option Bytes
view_fields_in_place x = (view_client_hello_in_place x.0, option_map (λ c. c.now) x.1)

abbrev pub view_certificate_request_in_place : CertificateRequestView → CertificateRequest
view_certificate_request_in_place r = record {
  certificate_types = r.cert_types.now;
  supported_signature_algorithms =
      option_map (λ v. items_in (number 2) v.bytes.now) r.sig_hash_algs;
  certificate_authorities = items_in (counted 2) r.unparsed_ca.bytes.now;
}

abbrev pub view_handshake_in_place : HandshakeView → Handshake
view_handshake_in_place (in_place.ClientHello h) =
    handshakes.ClientHello (view_client_hello_in_place h)
view_handshake_in_place (in_place.Certificate c) =
    handshakes.Certificate (items_in (counted 3) c.bytes.now)
view_handshake_in_place (in_place.CertificateRequest r) =
    handshakes.CertificateRequest (view_certificate_request_in_place r)
view_handshake_in_place (in_place.Other m) = view_handshake m

-- The result of a call, as a message without lists.
abbrev pub as_other : Returned TlsMessageHandshake → Returned HandshakeView
as_other (Ok x) = Ok (x.0, in_place.Other x.1)
as_other (Err e) = Err e

abbrev pub view_raw_handshake : RawHandshake → Framed
view_raw_handshake h = record { kind = h.msg_type.0; content = h.body.now }

-- HandshakeType msg_type; uint24 length; the body (RFC 5246, section 7.4).
abbrev pub raw_handshake : Layout Framed
raw_handshake = framed 1 3

-- The value of the message's body.
abbrev pub body_of : Framed → Result Handshake Refusal
body_of h = value_of (reading (handshake_body h.kind (length h.content)) h.content)

-- The value of the message.
abbrev pub handshake_of : Framed → Result Message Refusal
handshake_of h = value_of (reading (handshake_body h.kind (length h.content)) h.content
    and_then λ x. Ok (message.Handshake x.0, x.1))

-- What is known of a connection: what its fields are computed from.
use Rattle.std.specs.Prelude.{ℕ, List, Option, Some, None}
use Rattle.std.specs.Option.{option_map}
use Rattle.std.specs.String.{string_bytes}
use Rattle.layouts.specs.Bytes.{Bytes}
use Rattle.layouts.specs.Text.{held}
use Rattle.tls_hs.specs.Hello.{ClientHello}
use Rattle.tls_hs.specs.ServerHello.{ServerHello}
use Rattle.tls_fingerprints.specs.Hellos.{Client, Server}
use Rattle.tls_fingerprints.specs.Ja3.{ja3s_text_of}
use Rattle.tls_summary.specs.HandshakeSummary.{HandshakeSummary, view_summary}
use Rattle.log_formats.specs.declared.suites.Suites.{Suites}
use Rattle.log_certificates.specs.Read.{ReadFields, read_if, view_read}
use Rattle.log_fields.specs.declared.context.FieldContext.{FieldContext}
use Rattle.log_fields.specs.declared.context.OwnCertificate.{OwnCertificate}
use Rattle.log_fields.specs.declared.context.OwnCertificate.TheVariants.{Unparsed, Parsed}
use Rattle.log_fields.specs.declared.summary.Summary.{Summary}

-- The fields of a hello that its fingerprints use.
abbrev pub client_parts : ClientHello → Client
client_parts h = record {
  version = h.client_version;
  suites = h.cipher_suites;
  extensions = held h.extensions;
}

abbrev pub server_parts : ServerHello → Server
server_parts h = record {
  version = h.server_version;
  suite = h.cipher_suite;
  extensions = held h.extensions;
}

-- A hello in the form of SSL 2.0 has no fingerprints.
abbrev pub unless_ssl2 : Option (List ℕ) → Option ClientHello → Option Client
unless_ssl2 (Some specs) h = None
unless_ssl2 None h = option_map client_parts h

-- The hellos that have fingerprints.
abbrev pub printed_client : HandshakeSummary → Option Client
printed_client h = unless_ssl2 h.ssl2_cipher_specs h.client

abbrev pub printed_server : HandshakeSummary → Option Server
printed_server h = option_map server_parts h.server

-- A side's own certificate, parsed or not yet.
abbrev pub own_certificate : OwnCertificate → Option ReadFields
own_certificate (Unparsed bytes) = read_if (option_map (λ b. b.now) bytes)
own_certificate (Parsed read) = option_map view_read read

abbrev pub parsed_certificate : OwnCertificate → Option ReadFields
parsed_certificate (Unparsed bytes) = None
parsed_certificate (Parsed read) = option_map view_read read

-- A text that is kept, or else another one.
abbrev pub kept_or : Option Bytes → Option Bytes → Option Bytes
kept_or (Some text) other = Some text
kept_or None other = other

pub record Known : Type 0 where
  -- the names of cipher suites
  pub suites : Suites
  pub summary : Summary
  pub handshake : HandshakeSummary
  -- the text of the ServerHello's JA3S
  pub ja3s_text : Option Bytes
  -- the certificates of both sides, if they were sent and can be read
  pub server : Option ReadFields
  pub client : Option ReadFields

-- What is known of a connection with this summary.
abbrev pub known : Suites → Summary → Known
known suites s =
    let h = view_summary s.handshake.now in
    record {
      suites = suites;
      summary = s;
      handshake = h;
      ja3s_text = option_map ja3s_text_of (printed_server h);
      server = read_if h.server_certificate;
      client = read_if h.client_certificate;
    }

abbrev pub known_of : FieldContext → Known
known_of c =
    let h = view_summary c.handshake.now in
    record {
      suites = c.suites.now;
      summary = c.summary.now;
      handshake = h;
      ja3s_text =
          kept_or (option_map string_bytes c.kept.ja3s)
          (option_map ja3s_text_of (printed_server h));
      server = own_certificate c.server;
      client = own_certificate c.client;
    }

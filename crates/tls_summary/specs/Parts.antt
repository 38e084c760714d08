-- The stored parts of a connection's hellos and certificates.
use Rattle.std.specs.Prelude.{List, [], ◌∷◌, ◌==◌, if◌then◌else◌, map, length, Option, Some, None, Ok, Err}
use Rattle.std.specs.Option.{option_map}
use Rattle.sha2.specs.Sha256.{sha256}
use Rattle.layouts.specs.Bytes.{Bytes}
use Rattle.layouts.specs.Layout.{number}
use Rattle.layouts.specs.Items.{items_in}
use Rattle.layouts.specs.Meaning.{Answer, Broken, Lacks}
use Rattle.layouts.specs.Reading.{reading}
use Rattle.tls_hs.specs.Certificate.{CertificateStatus}
use Rattle.tls_hs.specs.Hello as hello
use Rattle.tls_hs.specs.ServerHello as server
use Rattle.x509.specs.Certificate.{Certificate, certificate}
use Rattle.tls_summary.specs.declared.parts.ClientParts.{ClientParts}
use Rattle.tls_summary.specs.declared.parts.ServerParts.{ServerParts}
use Rattle.tls_summary.specs.declared.parts.CertificateSummary.{CertificateSummary}
use Rattle.tls_summary.specs.declared.parts.CertificateFault.{CertificateFault}
use Rattle.tls_summary.specs.declared.parts.CertificateFault.TheVariants as fault

-- The ClientHello of these parts.
abbrev pub view_client : ClientParts → hello.ClientHello
view_client p = record {
  client_version = p.version.0;
  random = p.random.items;
  session_id = option_map (λ v. v.items) p.session_id;
  cipher_suites = items_in (number 2) p.ciphers.items;
  compression_methods = items_in (number 1) p.compressions.items;
  extensions = option_map (λ v. v.items) p.ext;
}

-- The ServerHello of these parts.
abbrev pub view_server : ServerParts → server.ServerHello
view_server p = record {
  server_version = p.version.0;
  random = p.random.items;
  session_id = option_map (λ v. v.items) p.session_id;
  cipher_suite = p.cipher.0;
  compression_method = p.compression.0;
  extensions = option_map (λ v. v.items) p.ext;
}

-- Why a certificate doesn't parse (RFC 5280, section 4.1). No bytes may follow it.
abbrev pub fault_by : Answer Certificate → Option CertificateFault
fault_by (Ok (c, [])) = None
fault_by (Ok (c, n ∷ b)) = Some fault.Trailing
fault_by (Err (Lacks n)) = Some fault.Incomplete
fault_by (Err (Broken k)) = Some (fault.Broken k)

abbrev pub summary_of_certificate : Bytes → CertificateSummary
summary_of_certificate b =
    record { length = length b; sha256 = sha256 b; fault = fault_by (reading certificate b) }

-- The length and the SHA-256 of each certificate, in order, and why it doesn't parse.
abbrev pub summaries_of_all : List Bytes → List CertificateSummary
summaries_of_all chain = map summary_of_certificate chain

-- The OCSPResponse in a CertificateStatus, whose type is ocsp, 1 (RFC 6066, section 8).
abbrev pub ocsp_response_in : Answer CertificateStatus → Option Bytes
ocsp_response_in (Ok x) = if x.0.status_type == 1 then Some x.0.response else None
ocsp_response_in (Err e) = None

-- The first of a chain, which is the sender's end-entity certificate.
abbrev pub first_of : List Bytes → Option Bytes
first_of [] = None
first_of (b ∷ chain) = Some b

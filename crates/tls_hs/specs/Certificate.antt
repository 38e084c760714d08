-- Certificates, certificate requests, and the status of certificates.
--
-- Lower bounds of the RFCs, as in opaque x<1..2^8-1>, aren't checked: any list and any block may be
-- empty.
use Rattle.std.specs.Prelude.{ℕ, List, map, Option, Some, None}
use Rattle.std.specs.Option.{option_map}
use Rattle.layouts.specs.Bytes.{Bytes}
use Rattle.layouts.specs.Layout.{Layout, done, number, list, either, ◌>>=◌, counted, counted_window}
use Rattle.tls_hs.specs.declared.certificate.TlsCertificateContents.{TlsCertificateContents}
use Rattle.tls_hs.specs.declared.certificate.TlsCertificateStatusContents.{TlsCertificateStatusContents}
use Rattle.tls_hs.specs.declared.certificate_request.TlsCertificateRequestContents.{TlsCertificateRequestContents}

-- The value of a Certificate (RFC 5246, section 7.4.2), regardless of its place in memory: its
-- ASN.1Cert certificate_list.
abbrev pub view_certificate : TlsCertificateContents → List Bytes
view_certificate c = map (λ x. x.bytes.now) c.cert_chain.items

-- ASN.1Cert certificate_list<0..2^24-1>, of opaque ASN.1Cert<1..2^24-1>. An empty certificate is
-- accepted too.
unfoldable pub certificate : Layout (List Bytes)
certificate = counted_window 3 (list (counted 3))

-- The value of a CertificateRequest (RFC 5246, section 7.4.4). Up to TLS 1.1 it has no algorithms
-- (RFC 4346, section 7.4.4).
pub record CertificateRequest : Type 0 where
  pub certificate_types : List ℕ
  pub supported_signature_algorithms : Option (List ℕ)
  pub certificate_authorities : List Bytes

abbrev pub view_certificate_request : TlsCertificateRequestContents → CertificateRequest
view_certificate_request r = record {
  certificate_types = r.cert_types.items;
  supported_signature_algorithms = option_map (λ v. v.items) r.sig_hash_algs;
  certificate_authorities = map (λ x. x.now) r.unparsed_ca.items;
}

-- ClientCertificateType certificate_types<1..2^8-1>, 1 byte each. The list may be empty.
unfoldable pub certificate_types : Layout (List ℕ)
certificate_types = counted 1

-- SignatureAndHashAlgorithm supported_signature_algorithms<2..2^16-2>, each as one number. The list
-- may be empty.
unfoldable pub signature_algorithms : Layout (List ℕ)
signature_algorithms = counted_window 2 (list (number 2))

-- DistinguishedName certificate_authorities<0..2^16-1>, of opaque DistinguishedName<1..2^16-1>. An
-- empty name is accepted too.
unfoldable pub certificate_authorities : Layout (List Bytes)
certificate_authorities = counted_window 2 (list (counted 2))

-- The body of a CertificateRequest in TLS 1.2.
unfoldable pub certificate_request_with_algorithms : Layout CertificateRequest
certificate_request_with_algorithms = do
  types ← certificate_types
  algorithms ← signature_algorithms
  authorities ← certificate_authorities
  done (record {
    certificate_types = types;
    supported_signature_algorithms = Some algorithms;
    certificate_authorities = authorities;
  })

-- The body of a CertificateRequest up to TLS 1.1.
unfoldable pub certificate_request_without_algorithms : Layout CertificateRequest
certificate_request_without_algorithms = do
  types ← certificate_types
  authorities ← certificate_authorities
  done (record {
    certificate_types = types;
    supported_signature_algorithms = None;
    certificate_authorities = authorities;
  })

-- The body of a CertificateRequest. Its bytes don't reveal which form it has: it is the first that
-- can be read.
unfoldable pub certificate_request : Layout CertificateRequest
certificate_request =
    either certificate_request_with_algorithms certificate_request_without_algorithms

-- The value of a CertificateStatus (RFC 6066, section 8).
pub record CertificateStatus : Type 0 where
  pub status_type : ℕ
  pub response : Bytes

abbrev pub view_certificate_status : TlsCertificateStatusContents → CertificateStatus
view_certificate_status s = record { status_type = s.status_type; response = s.blob.now }

-- The body of a CertificateStatus. Its response is opaque OCSPResponse<1..2^24-1>; an empty one is
-- accepted too.
unfoldable pub certificate_status : Layout CertificateStatus
certificate_status = do
  status_type ← number 1
  response ← counted 3
  done (record { status_type = status_type; response = response })

-- The values of extensions, regardless of their place in memory (RFC 8446, section 4.2).
use Rattle.std.specs.Prelude.{ℕ, List, map, Option}
use Rattle.std.specs.Option.{option_map}
use Rattle.std.specs.Borrow.{Bor}
use Rattle.layouts.specs.Bytes.{Bytes}
use Rattle.tls_base.specs.ExtensionNumbers as extension_number
use Rattle.tls_base.specs.declared.sni_type.SNIType.{SNIType}
use Rattle.tls_base.specs.declared.status_type.CertificateStatusType.{CertificateStatusType}
use Rattle.tls_ext.specs.declared.extension.OidFilter.{OidFilter as RustOidFilter}
use Rattle.tls_ext.specs.declared.extension.TlsExtension.{TlsExtension}
use Rattle.tls_ext.specs.declared.extension.TlsExtension.TheVariants as rust

-- A server name: its NameType and its bytes (RFC 6066, section 3).
pub record ServerName : Type 0 where
  pub name_type : ℕ
  pub name : Bytes

abbrev pub view_server_name : SNIType × Bor (List ℕ) → ServerName
view_server_name n = record { name_type = n.0.0; name = n.1.now }

-- A CertificateStatusRequest: its CertificateStatusType and the request, as bytes (RFC 6066,
-- section 8).
pub record StatusRequest : Type 0 where
  pub status_type : ℕ
  pub request : Bytes

abbrev pub view_status_request : CertificateStatusType × Bor (List ℕ) → StatusRequest
view_status_request r = record { status_type = r.0.0; request = r.1.now }

-- OIDFilter (RFC 8446, section 4.2.5).
pub record OidFilter : Type 0 where
  pub certificate_extension_oid : Bytes
  pub certificate_extension_values : Bytes

abbrev pub view_oid_filter : RustOidFilter → OidFilter
view_oid_filter f = record {
  certificate_extension_oid = f.cert_ext_oid.now;
  certificate_extension_values = f.cert_ext_val.now;
}

-- EncryptedSNI of a draft before Encrypted Client Hello (draft-ietf-tls-esni-02, section 5).
pub record EncryptedServerName : Type 0 where
  pub suite : ℕ
  pub key_share_group : ℕ
  pub key_exchange : Bytes
  pub record_digest : Bytes
  pub encrypted_sni : Bytes

-- The kinds of extensions, by their names in the registry of extension types.
pub data Extension : Type 0 where
  server_name : List ServerName → Extension
  max_fragment_length : ℕ → Extension
  status_request : Option StatusRequest → Extension
  supported_groups : List ℕ → Extension
  ec_point_formats : Bytes → Extension
  signature_algorithms : List ℕ → Extension
  heartbeat : ℕ → Extension
  application_layer_protocol_negotiation : List Bytes → Extension
  signed_certificate_timestamp : Option Bytes → Extension
  padding : Bytes → Extension
  encrypt_then_mac : Extension
  extended_master_secret : Extension
  record_size_limit : ℕ → Extension
  session_ticket : Bytes → Extension
  key_share_old : Bytes → Extension
  pre_shared_key : Bytes → Extension
  early_data : Option ℕ → Extension
  supported_versions : List ℕ → Extension
  cookie : Bytes → Extension
  psk_key_exchange_modes : Bytes → Extension
  oid_filters : List OidFilter → Extension
  post_handshake_auth : Extension
  key_share : Bytes → Extension
  next_protocol_negotiation : Extension
  renegotiation_info : Bytes → Extension
  encrypted_server_name : EncryptedServerName → Extension
  -- a GREASE number, and the content
  grease : ℕ → Bytes → Extension
  -- any other number, and the content
  unknown : ℕ → Bytes → Extension

abbrev pub view : TlsExtension → Extension
view (rust.SNI names) = server_name (map view_server_name names.items)
view (rust.MaxFragmentLength code) = max_fragment_length code
view (rust.StatusRequest request) = status_request (option_map view_status_request request)
view (rust.EllipticCurves groups) = supported_groups (map (λ g. g.0) groups.items)
view (rust.EcPointFormats formats) = ec_point_formats formats.now
view (rust.SignatureAlgorithms algorithms) = signature_algorithms algorithms.items
view (rust.Heartbeat mode) = heartbeat mode
view (rust.ALPN names) = application_layer_protocol_negotiation (map (λ n. n.now) names.items)
view (rust.SignedCertificateTimestamp timestamps) =
    signed_certificate_timestamp (option_map (λ t. t.now) timestamps)
view (rust.Padding bytes) = padding bytes.now
view rust.EncryptThenMac = encrypt_then_mac
view rust.ExtendedMasterSecret = extended_master_secret
view (rust.RecordSizeLimit limit) = record_size_limit limit
view (rust.SessionTicket ticket) = session_ticket ticket.now
view (rust.KeyShareOld shares) = key_share_old shares.now
view (rust.PreSharedKey keys) = pre_shared_key keys.now
view (rust.EarlyData size) = early_data size
view (rust.SupportedVersions versions) = supported_versions (map (λ v. v.0) versions.items)
view (rust.Cookie bytes) = cookie bytes.now
view (rust.PskExchangeModes modes) = psk_key_exchange_modes modes.items
view (rust.OidFilters filters) = oid_filters (map view_oid_filter filters.items)
view rust.PostHandshakeAuth = post_handshake_auth
view (rust.KeyShare shares) = key_share shares.now
view rust.NextProtocolNegotiation = next_protocol_negotiation
view (rust.RenegotiationInfo bytes) = renegotiation_info bytes.now
view (rust.EncryptedServerName suite group share digest sni) = encrypted_server_name (record {
  suite = suite.0;
  key_share_group = group.0;
  key_exchange = share.now;
  record_digest = digest.now;
  encrypted_sni = sni.now;
})
view (rust.Grease number content) = grease number content.now
view (rust.Unknown kind content) = unknown kind.0 content.now

-- The ExtensionType of each kind (RFC 8446, section 4.2). All GREASE numbers have 0xfafa.
abbrev pub extension_type : Extension → ℕ
extension_type (server_name names) = extension_number.server_name
extension_type (max_fragment_length code) = extension_number.max_fragment_length
extension_type (status_request request) = extension_number.status_request
extension_type (supported_groups groups) = extension_number.supported_groups
extension_type (ec_point_formats formats) = extension_number.ec_point_formats
extension_type (signature_algorithms algorithms) = extension_number.signature_algorithms
extension_type (heartbeat mode) = extension_number.heartbeat
extension_type (application_layer_protocol_negotiation names) =
    extension_number.application_layer_protocol_negotiation
extension_type (signed_certificate_timestamp timestamps) =
    extension_number.signed_certificate_timestamp
extension_type (padding bytes) = extension_number.padding
extension_type encrypt_then_mac = extension_number.encrypt_then_mac
extension_type extended_master_secret = extension_number.extended_master_secret
extension_type (record_size_limit limit) = extension_number.record_size_limit
extension_type (session_ticket ticket) = extension_number.session_ticket
extension_type (key_share_old shares) = extension_number.key_share_old
extension_type (pre_shared_key keys) = extension_number.pre_shared_key
extension_type (early_data size) = extension_number.early_data
extension_type (supported_versions versions) = extension_number.supported_versions
extension_type (cookie bytes) = extension_number.cookie
extension_type (psk_key_exchange_modes modes) = extension_number.psk_key_exchange_modes
extension_type (oid_filters filters) = extension_number.oid_filters
extension_type post_handshake_auth = extension_number.post_handshake_auth
extension_type (key_share shares) = extension_number.key_share
extension_type next_protocol_negotiation = extension_number.next_protocol_negotiation
extension_type (renegotiation_info bytes) = extension_number.renegotiation_info
extension_type (encrypted_server_name name) = extension_number.encrypted_server_name
extension_type (grease number content) = 0xfafa
extension_type (unknown number content) = number

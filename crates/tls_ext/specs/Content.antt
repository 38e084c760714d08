-- The content of each kind of extension: the bytes after its type and length.
--
-- The lower bounds of the RFCs' types, as the 1 of `opaque HostName<1..2^16-1>`, aren't checked,
-- here or anywhere: a block or a list may be empty.
use Rattle.std.specs.Prelude.{Some, None, ◌==◌, [], ◌∷◌}
use Rattle.layouts.specs.Bytes.{Bytes}
use Rattle.layouts.specs.Layout.{Layout, ◌>>=◌, ◌>>◌, done, mapped, test, choose, number, ignored, left, rest, maybe}
use Rattle.layouts.specs.Layout.{counted, counted_window, list, pairs}
use Rattle.layouts.specs.declared.result.ErrorKind.TheVariants.{Verify}
use Rattle.tls_ext.specs.Extension as ext
use Rattle.tls_ext.specs.Extension.{Extension, ServerName, StatusRequest, OidFilter}

-- All remaining bytes are the value.
abbrev pub opaque_content : (Bytes → Extension) → Layout Extension
opaque_content kind = mapped kind rest

-- The content of a flag: empty.
abbrev pub empty_content : Extension → Layout Extension
empty_content kind = do
  n ← left
  test (n == 0) Verify
  done kind

-- NameType name_type; opaque HostName<1..2^16-1> (RFC 6066, section 3). The type may be any.
unfoldable pub server_name : Layout ServerName
server_name = do
  kind ← number 1
  name ← counted 2
  done (record { name_type = kind; name = name })

-- ServerName server_name_list<1..2^16-1> (RFC 6066, section 3). A server sends it empty.
unfoldable pub server_names : Layout Extension
server_names = do
  n ← left
  names ← choose (n == 0) (done []) (counted_window 2 (list server_name))
  done (ext.server_name names)

-- enum MaxFragmentLength, of 1 byte (RFC 6066, section 4).
unfoldable pub max_fragment_length : Layout Extension
max_fragment_length = mapped ext.max_fragment_length (number 1)

-- CertificateStatusType status_type, and the request of that type as bytes (RFC 6066, section 8). A
-- server sends it empty.
unfoldable pub status_request : Layout Extension
status_request = do
  n ← left
  choose (n == 0) (done (ext.status_request None)) (do
    kind ← number 1
    request ← rest
    done (ext.status_request (Some (record { status_type = kind; request = request }))))

-- NamedGroup named_group_list<2..2^16-1> (RFC 8446, section 4.2.7).
unfoldable pub supported_groups : Layout Extension
supported_groups = mapped ext.supported_groups (counted_window 2 pairs)

-- ECPointFormat ec_point_format_list<1..2^8-1> (RFC 8422, section 5.1.2).
unfoldable pub ec_point_formats : Layout Extension
ec_point_formats = mapped ext.ec_point_formats (counted 1)

-- SignatureScheme supported_signature_algorithms<2..2^16-2> (RFC 8446, section 4.2.3). An odd byte
-- at the end is dropped.
unfoldable pub signature_algorithms : Layout Extension
signature_algorithms = mapped ext.signature_algorithms (counted_window 2 (list (number 2)))

-- HeartbeatMode mode, of 1 byte (RFC 6520, section 2).
unfoldable pub heartbeat : Layout Extension
heartbeat = mapped ext.heartbeat (number 1)

-- ProtocolName protocol_name_list<2..2^16-1>, each an opaque<1..2^8-1> (RFC 7301, section 3.1).
unfoldable pub application_layer_protocol_negotiation : Layout Extension
application_layer_protocol_negotiation =
    mapped ext.application_layer_protocol_negotiation (counted_window 2 (list (counted 1)))

-- A SignedCertificateTimestampList as bytes, after its length (RFC 6962, section 3.3.1). A client
-- sends none.
unfoldable pub signed_certificate_timestamp : Layout Extension
signed_certificate_timestamp = mapped ext.signed_certificate_timestamp (maybe (counted 2))

-- Padding of any length (RFC 7685, section 3). Whether it is all zeros isn't checked.
unfoldable pub padding : Layout Extension
padding = opaque_content ext.padding

-- The flag encrypt_then_mac (RFC 7366, section 2).
unfoldable pub encrypt_then_mac : Layout Extension
encrypt_then_mac = empty_content ext.encrypt_then_mac

-- The flag extended_master_secret (RFC 7627, section 5.1).
unfoldable pub extended_master_secret : Layout Extension
extended_master_secret = empty_content ext.extended_master_secret

-- uint16 RecordSizeLimit (RFC 8449, section 4).
unfoldable pub record_size_limit : Layout Extension
record_size_limit = mapped ext.record_size_limit (number 2)

-- A ticket without a length field (RFC 5077, section 3.2).
unfoldable pub session_ticket : Layout Extension
session_ticket = opaque_content ext.session_ticket

-- Key shares, under their number in drafts of RFC 8446.
unfoldable pub key_share_old : Layout Extension
key_share_old = opaque_content ext.key_share_old

-- PreSharedKeyExtension, as bytes (RFC 8446, section 4.2.11).
unfoldable pub pre_shared_key : Layout Extension
pre_shared_key = opaque_content ext.pre_shared_key

-- uint32 max_early_data_size in a NewSessionTicket, else empty (RFC 8446, section 4.2.10).
unfoldable pub early_data : Layout Extension
early_data = do
  n ← left
  choose (n == 0) (done (ext.early_data None))
      (mapped (λ size. ext.early_data (Some size)) (number 4))

-- ProtocolVersion selected_version, of 2 bytes; else ProtocolVersion versions<2..254> (RFC 8446,
-- section 4.2.1), whose length isn't checked. In TLS 1.3 the version in use is the one selected
-- here: the hellos have that of TLS 1.2.
unfoldable pub supported_versions : Layout Extension
supported_versions = do
  n ← left
  choose (n == 2)
      (mapped (λ version. ext.supported_versions (version ∷ [])) (number 2))
      (do
        ignored 1
        mapped ext.supported_versions pairs)

-- Cookie, as bytes (RFC 8446, section 4.2.2).
unfoldable pub cookie : Layout Extension
cookie = opaque_content ext.cookie

-- PskKeyExchangeMode ke_modes<1..255> (RFC 8446, section 4.2.9).
unfoldable pub psk_key_exchange_modes : Layout Extension
psk_key_exchange_modes = mapped ext.psk_key_exchange_modes (counted 1)

-- opaque certificate_extension_oid<1..2^8-1>; opaque certificate_extension_values<0..2^16-1> (RFC
-- 8446, section 4.2.5).
unfoldable pub oid_filter : Layout OidFilter
oid_filter = do
  oid ← counted 1
  values ← counted 2
  done (record { certificate_extension_oid = oid; certificate_extension_values = values })

-- OIDFilter filters<0..2^16-1> (RFC 8446, section 4.2.5).
unfoldable pub oid_filters : Layout Extension
oid_filters = mapped ext.oid_filters (counted_window 2 (list oid_filter))

-- The flag post_handshake_auth (RFC 8446, section 4.2.6).
unfoldable pub post_handshake_auth : Layout Extension
post_handshake_auth = empty_content ext.post_handshake_auth

-- KeyShareClientHello, KeyShareServerHello or KeyShareHelloRetryRequest, as bytes (RFC 8446,
-- section 4.2.8).
unfoldable pub key_share : Layout Extension
key_share = opaque_content ext.key_share

-- The flag next_protocol_negotiation, as a client sends it (draft-agl-tls-nextprotoneg-04, section
-- 3).
unfoldable pub next_protocol_negotiation : Layout Extension
next_protocol_negotiation = empty_content ext.next_protocol_negotiation

-- opaque renegotiated_connection<0..255> (RFC 5746, section 3.2).
unfoldable pub renegotiation_info : Layout Extension
renegotiation_info = mapped ext.renegotiation_info (counted 1)

-- CipherSuite suite; KeyShareEntry key_share; opaque record_digest<0..2^16-1>; opaque
-- encrypted_sni<0..2^16-1> (draft-ietf-tls-esni-02, section 5).
unfoldable pub encrypted_server_name : Layout Extension
encrypted_server_name = do
  suite ← number 2
  group ← number 2
  share ← counted 2
  digest ← counted 2
  sni ← counted 2
  done (ext.encrypted_server_name (record {
    suite = suite;
    key_share_group = group;
    key_exchange = share;
    record_digest = digest;
    encrypted_sni = sni;
  }))

-- The types of extensions: the ExtensionType of RFC 8446, section 4.2, with those of earlier
-- versions and of drafts.
--
-- First come the numbers of those whose content is parsed, by their names in the RFCs, then the
-- names that the code shows. The code has the numbers a second time, as constants, and must show
-- them by these names.
use Rattle.std.specs.Prelude.{ℕ, List, [], ◌∷◌, codes}
use Rattle.tls_base.specs.Names.{Text}

abbrev pub server_name : ℕ
server_name = 0

abbrev pub max_fragment_length : ℕ
max_fragment_length = 1

abbrev pub status_request : ℕ
status_request = 5

abbrev pub supported_groups : ℕ
supported_groups = 10

abbrev pub ec_point_formats : ℕ
ec_point_formats = 11

abbrev pub signature_algorithms : ℕ
signature_algorithms = 13

abbrev pub heartbeat : ℕ
heartbeat = 15

abbrev pub application_layer_protocol_negotiation : ℕ
application_layer_protocol_negotiation = 16

abbrev pub signed_certificate_timestamp : ℕ
signed_certificate_timestamp = 18

abbrev pub padding : ℕ
padding = 21

abbrev pub encrypt_then_mac : ℕ
encrypt_then_mac = 22

abbrev pub extended_master_secret : ℕ
extended_master_secret = 23

abbrev pub record_size_limit : ℕ
record_size_limit = 28

abbrev pub session_ticket : ℕ
session_ticket = 35

-- `key_share` of the drafts of TLS 1.3 before draft 23.
abbrev pub key_share_old : ℕ
key_share_old = 40

abbrev pub pre_shared_key : ℕ
pre_shared_key = 41

abbrev pub early_data : ℕ
early_data = 42

abbrev pub supported_versions : ℕ
supported_versions = 43

abbrev pub cookie : ℕ
cookie = 44

abbrev pub psk_key_exchange_modes : ℕ
psk_key_exchange_modes = 45

abbrev pub oid_filters : ℕ
oid_filters = 48

abbrev pub post_handshake_auth : ℕ
post_handshake_auth = 49

abbrev pub key_share : ℕ
key_share = 51

-- From draft-agl-tls-nextprotoneg.
abbrev pub next_protocol_negotiation : ℕ
next_protocol_negotiation = 13172

abbrev pub renegotiation_info : ℕ
renegotiation_info = 0xff01

-- From early drafts of Encrypted Client Hello.
abbrev pub encrypted_server_name : ℕ
encrypted_server_name = 0xffce

-- Each number and its name. Grease is one of the sixteen values of RFC 8701, section 2; the others
-- have no name here.
abbrev pub extension_types : List (ℕ × Text)
extension_types =
    (server_name, codes "ServerName")
    ∷ (max_fragment_length, codes "MaxFragmentLength")
    ∷ (2, codes "ClientCertificate")
    ∷ (3, codes "TrustedCaKeys")
    ∷ (4, codes "TruncatedHMac")
    ∷ (status_request, codes "StatusRequest")
    ∷ (6, codes "UserMapping")
    ∷ (7, codes "ClientAuthz")
    ∷ (8, codes "ServerAuthz")
    ∷ (9, codes "CertType")
    ∷ (supported_groups, codes "SupportedGroups")
    ∷ (ec_point_formats, codes "EcPointFormats")
    ∷ (12, codes "Srp")
    ∷ (signature_algorithms, codes "SignatureAlgorithms")
    ∷ (14, codes "UseSrtp")
    ∷ (heartbeat, codes "Heartbeat")
    ∷ (application_layer_protocol_negotiation, codes "ApplicationLayerProtocolNegotiation")
    ∷ (17, codes "StatusRequestv2")
    ∷ (signed_certificate_timestamp, codes "SignedCertificateTimestamp")
    ∷ (19, codes "ClientCertificateType")
    ∷ (20, codes "ServerCertificateType")
    ∷ (padding, codes "Padding")
    ∷ (encrypt_then_mac, codes "EncryptThenMac")
    ∷ (extended_master_secret, codes "ExtendedMasterSecret")
    ∷ (24, codes "TokenBinding")
    ∷ (25, codes "CachedInfo")
    ∷ (record_size_limit, codes "RecordSizeLimit")
    ∷ (session_ticket, codes "SessionTicketTLS")
    ∷ (key_share_old, codes "KeyShareOld")
    ∷ (pre_shared_key, codes "PreSharedKey")
    ∷ (early_data, codes "EarlyData")
    ∷ (supported_versions, codes "SupportedVersions")
    ∷ (cookie, codes "Cookie")
    ∷ (psk_key_exchange_modes, codes "PskExchangeModes")
    ∷ (46, codes "TicketEarlyDataInfo")
    ∷ (47, codes "CertificateAuthorities")
    ∷ (oid_filters, codes "OidFilters")
    ∷ (post_handshake_auth, codes "PostHandshakeAuth")
    ∷ (50, codes "SigAlgorithmsCert")
    ∷ (key_share, codes "KeyShare")
    ∷ (next_protocol_negotiation, codes "NextProtocolNegotiation")
    ∷ (0xfafa, codes "Grease")
    ∷ (renegotiation_info, codes "RenegotiationInfo")
    ∷ (encrypted_server_name, codes "EncryptedServerName")
    ∷ []

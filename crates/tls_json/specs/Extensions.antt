-- The names of the fields of extensions, in order.
use Rattle.std.specs.Prelude.{ℕ, List, [], ◌∷◌, codes}
use Rattle.serde_json.specs.Data.{Data}
use Rattle.tls_ext.specs.declared.extension.OidFilter.{OidFilter}
use Rattle.tls_json.specs.Outline.{object_of, decimal, hexadecimal, bytes}
use Rattle.tls_json.specs.declared.offers.Outer.{Outer}

-- RFC 6066, section 3
abbrev pub server_name : List (List ℕ)
server_name = codes "name_type" ∷ codes "host_name" ∷ []

abbrev pub server_name_list : List (List ℕ)
server_name_list = codes "server_name_list" ∷ []

-- a client's (RFC 6066, section 8)
abbrev pub status_request : List (List ℕ)
status_request = codes "status_type" ∷ codes "request" ∷ []

-- RFC 8446, section 4.2.7
abbrev pub supported_groups : List (List ℕ)
supported_groups = codes "named_group_list" ∷ []

-- RFC 8422, section 5.1.2
abbrev pub ec_point_formats : List (List ℕ)
ec_point_formats = codes "ec_point_format_list" ∷ []

-- RFC 8446, section 4.2.3, and RFC 9345, section 4.1.1
abbrev pub signature_algorithms : List (List ℕ)
signature_algorithms = codes "supported_signature_algorithms" ∷ []

-- RFC 5764, section 4.1.1
abbrev pub use_srtp : List (List ℕ)
use_srtp = codes "SRTPProtectionProfiles" ∷ codes "srtp_mki" ∷ []

-- RFC 6520, section 2
abbrev pub heartbeat : List (List ℕ)
heartbeat = codes "mode" ∷ []

-- RFC 7301, section 3.1
abbrev pub protocol_names : List (List ℕ)
protocol_names = codes "protocol_name_list" ∷ []

-- RFC 8879, section 3
abbrev pub compress_certificate : List (List ℕ)
compress_certificate = codes "algorithms" ∷ []

-- a client's, and a server's (RFC 8446, section 4.2.11)
abbrev pub offered_psks : List (List ℕ)
offered_psks = codes "identities" ∷ codes "binders" ∷ []

abbrev pub identity_fields : List ℕ → ℕ → Data
identity_fields identity age =
    object_of (bytes (codes "identity") identity ∷ decimal (codes "obfuscated_ticket_age") age ∷ [])

abbrev pub selected_identity : List (List ℕ)
selected_identity = codes "selected_identity" ∷ []

-- RFC 8446, section 4.2.10
abbrev pub early_data : List (List ℕ)
early_data = codes "max_early_data_size" ∷ []

-- a client's, and a server's (RFC 8446, section 4.2.1)
abbrev pub offered_versions : List (List ℕ)
offered_versions = codes "versions" ∷ []

abbrev pub selected_version : List (List ℕ)
selected_version = codes "selected_version" ∷ []

-- RFC 8446, section 4.2.2
abbrev pub cookie : List (List ℕ)
cookie = codes "cookie" ∷ []

-- RFC 8446, section 4.2.9
abbrev pub psk_key_exchange_modes : List (List ℕ)
psk_key_exchange_modes = codes "ke_modes" ∷ []

-- RFC 8446, section 4.2.4
abbrev pub certificate_authorities : List (List ℕ)
certificate_authorities = codes "authorities" ∷ []

-- RFC 8446, section 4.2.5
abbrev pub oid_filters : List (List ℕ)
oid_filters = codes "filters" ∷ []

abbrev pub filter_fields : OidFilter → Data
filter_fields filter = object_of (
    bytes (codes "certificate_extension_oid") filter.cert_ext_oid.now
    ∷ bytes (codes "certificate_extension_values") filter.cert_ext_val.now
    ∷ [])

-- a key share, the lists of a client and a server, and the group of a HelloRetryRequest (RFC 8446,
-- section 4.2.8)
abbrev pub share_fields : ℕ → List ℕ → Data
share_fields group key_exchange =
    object_of (hexadecimal (codes "group") group ∷ bytes (codes "key_exchange") key_exchange ∷ [])

abbrev pub client_shares : List (List ℕ)
client_shares = codes "client_shares" ∷ []

abbrev pub server_share : List (List ℕ)
server_share = codes "server_share" ∷ []

abbrev pub selected_group : List (List ℕ)
selected_group = codes "selected_group" ∷ []

-- RFC 9146, section 3
abbrev pub connection_id : List (List ℕ)
connection_id = codes "cid" ∷ []

-- a client's outer one (RFC 9849, sections 4 and 5)
abbrev pub suite_fields : ℕ → ℕ → Data
suite_fields kdf_id aead_id =
    object_of (hexadecimal (codes "kdf_id") kdf_id ∷ hexadecimal (codes "aead_id") aead_id ∷ [])

abbrev pub encrypted_hello_fields : Outer → Data
encrypted_hello_fields outer = object_of (
    decimal (codes "type") 0
    ∷ (codes "cipher_suite", suite_fields outer.kdf_id outer.aead_id)
    ∷ decimal (codes "config_id") outer.config_id
    ∷ bytes (codes "enc") outer.enc.now
    ∷ bytes (codes "payload") outer.payload.now
    ∷ [])

abbrev pub encrypted_client_hello : List (List ℕ)
encrypted_client_hello =
    codes "type" ∷ codes "cipher_suite" ∷ codes "config_id" ∷ codes "enc" ∷ codes "payload" ∷ []

-- RFC 5746, section 3.2
abbrev pub renegotiation_info : List (List ℕ)
renegotiation_info = codes "renegotiated_connection" ∷ []

-- draft-ietf-tls-esni-02, section 5
abbrev pub encrypted_server_name : List (List ℕ)
encrypted_server_name =
    codes "suite" ∷ codes "key_share" ∷ codes "record_digest" ∷ codes "encrypted_sni" ∷ []

-- The fields of a connection.
use Rattle.std.specs.Prelude.{ℕ, ◌&&◌, not, Bool, List, [], ◌∷◌, Option, Some, None, ◌==◌, if◌then◌else◌, length}
use Rattle.std.specs.Option.{option_map}
use Rattle.tls_base.specs.ExtensionNumbers as extension_number
use Rattle.tls_key_exchange.specs.Timestamp.{SignedCertificateTimestamp}
use Rattle.layouts.specs.Bytes.{Bytes}
use Rattle.layouts.specs.Framed.{Framed}
use Rattle.layouts.specs.Items.{items_in}
use Rattle.layouts.specs.Text.{held}
use Rattle.tls_ext.specs.Extension.{ServerName}
use Rattle.tls_ext.specs.InPlace as ext
use Rattle.tls_hs.specs.Hello as client
use Rattle.tls_hs.specs.ServerHello as server
use Rattle.tls_flow.specs.declared.symbol.Direction.{Direction as Side}
use Rattle.tls_flow.specs.declared.symbol.Direction.TheVariants.{ToServer, FromServer}
use Rattle.tls_summary.specs.Encrypted.{EncryptedClientHello, encrypted_client_hello, encrypted_in}
use Rattle.tls_summary.specs.HandshakeSummary.{HandshakeSummary, extensions_of_client}
use Rattle.tls_ext.specs.Offered.{algorithms_in, content_in, formats_in, groups_in, known}
use Rattle.tls_summary.specs.Hellos.{count_of, first_of, has, has_ticket_in, host_among, modes_in, names_in, others_among, protocols_in, share_group_in, shares_in, timestamps_in, versions_in}

abbrev pub extensions_of_server : Option server.ServerHello → Bytes
extensions_of_server None = []
extensions_of_server (Some h) = held h.extensions

abbrev pub client_extensions : HandshakeSummary → Bytes
client_extensions f = extensions_of_client f.client

abbrev pub server_extensions : HandshakeSummary → Bytes
server_extensions f = extensions_of_server f.server

abbrev pub version_of : Option server.ServerHello → Option ℕ
version_of None = None
version_of (Some h) = known (ext.best_version h.server_version (held h.extensions))

-- What the server chose.
abbrev pub version : HandshakeSummary → Option ℕ
version f = version_of f.server

abbrev pub cipher : HandshakeSummary → Option ℕ
cipher f = option_map (λ h. h.cipher_suite) f.server

abbrev pub next_protocol : HandshakeSummary → Option Bytes
next_protocol f = first_of (protocols_in (server_extensions f))

abbrev pub has_session : HandshakeSummary → Bool
has_session f = has extension_number.pre_shared_key (server_extensions f)

-- What the client offers.
abbrev pub server_name : HandshakeSummary → Option Bytes
server_name f = host_among (names_in (client_extensions f))

abbrev pub other_server_names : HandshakeSummary → List ServerName
other_server_names f = others_among (names_in (client_extensions f))

abbrev pub client_version : HandshakeSummary → Option ℕ
client_version f = option_map (λ h. h.client_version) f.client

abbrev pub session_id_of_client : Option client.ClientHello → Option Bytes
session_id_of_client None = None
session_id_of_client (Some h) = h.session_id

abbrev pub client_session_id : HandshakeSummary → Option Bytes
client_session_id f = session_id_of_client f.client

abbrev pub ciphers_of : Option client.ClientHello → List ℕ
ciphers_of None = []
ciphers_of (Some h) = h.cipher_suites

abbrev pub client_ciphers : HandshakeSummary → List ℕ
client_ciphers f = ciphers_of f.client

abbrev pub compressions_of : Option client.ClientHello → List ℕ
compressions_of None = []
compressions_of (Some h) = h.compression_methods

abbrev pub client_compressions : HandshakeSummary → List ℕ
client_compressions f = compressions_of f.client

abbrev pub client_extension : ℕ → HandshakeSummary → Option Bytes
client_extension kind f = content_in kind (client_extensions f)

abbrev pub client_extension_types : HandshakeSummary → List ℕ
client_extension_types f = items_in ext.extension_type (client_extensions f)

abbrev pub client_versions : HandshakeSummary → List ℕ
client_versions f = versions_in (client_extensions f)

abbrev pub client_groups : HandshakeSummary → List ℕ
client_groups f = groups_in (client_extensions f)

abbrev pub client_point_formats : HandshakeSummary → List ℕ
client_point_formats f = formats_in (client_extensions f)

abbrev pub client_signature_algorithms : HandshakeSummary → List ℕ
client_signature_algorithms f = algorithms_in (client_extensions f)

abbrev pub client_protocols : HandshakeSummary → List Bytes
client_protocols f = protocols_in (client_extensions f)

abbrev pub client_key_shares : HandshakeSummary → List Framed
client_key_shares f = shares_in (client_extensions f)

abbrev pub client_psk_modes : HandshakeSummary → List ℕ
client_psk_modes f = modes_in (client_extensions f)

abbrev pub offers_pre_shared_key : HandshakeSummary → Bool
offers_pre_shared_key f = has extension_number.pre_shared_key (client_extensions f)

abbrev pub offers_early_data : HandshakeSummary → Bool
offers_early_data f = has extension_number.early_data (client_extensions f)

abbrev pub offers_ticket : HandshakeSummary → Bool
offers_ticket f = has_ticket_in (client_extensions f)

abbrev pub has_cookie : HandshakeSummary → Bool
has_cookie f = has extension_number.cookie (client_extensions f)

-- encrypted_client_hello (RFC 9849, section 5).
abbrev pub offers_encrypted_client_hello : HandshakeSummary → Bool
offers_encrypted_client_hello f = has encrypted_client_hello (client_extensions f)

-- Its outer form.
abbrev pub client_encrypted_hello : HandshakeSummary → Option EncryptedClientHello
client_encrypted_hello f = encrypted_in (client_extension encrypted_client_hello f)

-- Whether the hello that a HelloRetryRequest asked for has it again, if the first hello had it (RFC
-- 9849, section 6.1.5). None if there are no two such hellos.
abbrev pub repeats_encrypted_client_hello : HandshakeSummary → Option Bool
repeats_encrypted_client_hello f =
    if f.had_encrypted_hello && f.is_retried && not f.is_asked_again then
    Some (offers_encrypted_client_hello f) else None

-- delegated_credential (RFC 9345, section 4.1.1).
abbrev pub offers_delegated_credentials : HandshakeSummary → Bool
offers_delegated_credentials f = has 34 (client_extensions f)

-- The fields of the ServerHello.
abbrev pub server_version : HandshakeSummary → Option ℕ
server_version f = option_map (λ h. h.server_version) f.server

abbrev pub session_id_of_server : Option server.ServerHello → Option Bytes
session_id_of_server None = None
session_id_of_server (Some h) = h.session_id

abbrev pub server_session_id : HandshakeSummary → Option Bytes
server_session_id f = session_id_of_server f.server

abbrev pub server_compression : HandshakeSummary → Option ℕ
server_compression f = option_map (λ h. h.compression_method) f.server

abbrev pub server_extension : ℕ → HandshakeSummary → Option Bytes
server_extension kind f = content_in kind (server_extensions f)

-- The connection ID that a hello asks for, in records sent to its sender: opaque cid<0..2^8-1> (RFC
-- 9146, section 3).
abbrev pub id_length : Option Bytes → ℕ
id_length (Some (n ∷ id)) = if length id == n then length id else 0
id_length _ = 0

abbrev pub id_length_of : Option Bytes → Option Bytes → Option Bytes → ℕ
id_length_of (Some b) (Some c) asked = id_length asked
id_length_of _ _ asked = 0

-- The length of the connection ID in records sent to a side, if both sides' hellos have the
-- extension connection_id, type 54.
abbrev pub connection_id_length : Side → HandshakeSummary → ℕ
connection_id_length ToServer f =
    id_length_of (client_extension 54 f) (server_extension 54 f) (server_extension 54 f)
connection_id_length FromServer f =
    id_length_of (client_extension 54 f) (server_extension 54 f) (client_extension 54 f)

abbrev pub server_extension_types : HandshakeSummary → List ℕ
server_extension_types f = items_in ext.extension_type (server_extensions f)

abbrev pub server_key_share : HandshakeSummary → Option ℕ
server_key_share f = share_group_in (server_extensions f)

abbrev pub server_timestamps : HandshakeSummary → List SignedCertificateTimestamp
server_timestamps f = timestamps_in (server_extensions f)

abbrev pub server_timestamp_count : HandshakeSummary → ℕ
server_timestamp_count f = count_of (server_timestamps f)

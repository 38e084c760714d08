-- The value of each field of a connection's line, by the definitions of the crates below; None if
-- the field is left out.
use Rattle.std.specs.Prelude.{
  ℕ,
  ◌+◌,
  ◌-◌,
  ◌/◌,
  ◌==◌,
  Bool,
  ◌||◌,
  cond,
  List,
  [],
  ◌∷◌,
  ◌++◌,
  length,
  Option,
  Some,
  None,
  codes,
  decimal,
  flat_map,
  map,
  is_some,
}
use Rattle.std.specs.Net.Text.{ip_text}
use Rattle.std.specs.Option.{option_map, unwrap_or}
use Rattle.hex.specs.Hex.{encode_lower}
use Rattle.layouts.specs.Bytes.{Bytes}
use Rattle.text_forms.specs.Escaped.{escaped_text}
use Rattle.text_forms.specs.Hexadecimal.{number_text}
use Rattle.json_objects.specs.Data.{Data, text_list}
use Rattle.tls_ext.specs.Extension.{ServerName}
use Rattle.connections.specs.Stream.{lacks}
use Rattle.connection_ids.specs.CommunityId.{community_id_of}
use Rattle.connection_ids.specs.Uid.{uid_of}
use Rattle.tls_summary.specs.Fields as hello
use Rattle.tls_summary.specs.HandshakeSummary.{HandshakeSummary}
use Rattle.tls_summary.specs.declared.parts.CertificateFault.{CertificateFault}
use Rattle.tls_summary.specs.declared.parts.CertificateSummary.{CertificateSummary}
use Rattle.tls_fingerprints.specs.Ja3.{digest_of, ja3_of, ja3_text_of}
use Rattle.tls_fingerprints.specs.Ja4.{ja4_of}
use Rattle.tls_fingerprints.specs.declared.hellos.Transport.{Transport}
use Rattle.tls_fingerprints.specs.declared.hellos.Transport.TheVariants as over
use Rattle.log_certificates.specs.Read.{ReadFields}
use Rattle.log_certificates.specs.Responses.{
  StapledStatus,
  next_update_value,
  revoked_at_value,
  serial_of,
  stapled_count_value,
  stapled_in as stapled_by,
  stapled_logs_value,
  stapled_status_value,
  stapled_times_value,
  this_update_value,
}
use Rattle.log_certificates.specs.Timestamps.{logs_value, times_value}
use Rattle.log_certificates.specs.Values.{
  certificate_value,
  has_expired,
  is_not_yet_valid,
  names_host_in,
}
use Rattle.log_certificates.specs.declared.field.CertificateField.{CertificateField}
use Rattle.log_formats.specs.Data.{
  count_data,
  mark_data,
  marked,
  seconds_data,
  some_digits,
  some_escaped,
  some_group,
  some_numbers,
  some_suite,
  some_text,
  some_texts,
  some_version,
  stop_data,
  text_data,
}
use Rattle.log_formats.specs.Lists.{is_empty}
use Rattle.log_formats.specs.Texts.{
  extension_text,
  group_text,
  scheme_text,
  spec_text,
  suite_text,
  typed_text,
  version_text,
}
use Rattle.log_formats.specs.declared.suites.Suites.{Suites}
use Rattle.log_fields.specs.Known.{Known, printed_client}
use Rattle.log_fields.specs.Names.{
  alert_text,
  fault_text,
  gap_text,
  is_clients,
  kind_text,
  outcome_text,
  drop_reasons,
  found_by_text,
  protocol_text,
  reason_text,
  tunnel_text,
}
use Rattle.connections.specs.declared.connection.Side.{Side}
use Rattle.connections.specs.declared.connection.Side.TheVariants.{Originator, Responder}
use Rattle.connections.specs.Dropped.{has_reason}
use Rattle.connections.specs.declared.dropped.Dropped.{Dropped}
use Rattle.connections.specs.declared.five_tuple.Protocol.{Protocol}
use Rattle.connections.specs.declared.five_tuple.Protocol.TheVariants.{Tcp, Udp}
use Rattle.connections.specs.declared.receiver.DropReason.{DropReason}
use Rattle.tls_flow.specs.declared.flow.Stop.{Stop}
use Rattle.tunnels.specs.declared.tunnel.Tunnel.{Tunnel}
use Rattle.log_fields.specs.declared.fields.Field.{Field}
use Rattle.log_fields.specs.declared.fields.Field.TheVariants as field
use Rattle.log_fields.specs.declared.summary.Party.{Party}
use Rattle.log_fields.specs.declared.summary.Summary.{Summary}
use Rattle.log_fields.specs.declared.fields.Identity.{Identity}
use Rattle.log_fields.specs.declared.fields.Identity.TheVariants as identity
use Rattle.log_fields.specs.declared.fields.Negotiation.{Negotiation}
use Rattle.log_fields.specs.declared.fields.Negotiation.TheVariants as negotiation
use Rattle.log_fields.specs.declared.fields.Lifecycle.{Lifecycle}
use Rattle.log_fields.specs.declared.fields.Lifecycle.TheVariants as lifecycle
use Rattle.log_fields.specs.declared.fields.Offer.{Offer}
use Rattle.log_fields.specs.declared.fields.Offer.TheVariants as offer
use Rattle.log_fields.specs.declared.fields.Answer.{Answer}
use Rattle.log_fields.specs.declared.fields.Answer.TheVariants as answer
use Rattle.log_fields.specs.declared.fields.Chain.{Chain}
use Rattle.log_fields.specs.declared.fields.Chain.TheVariants as chain
use Rattle.log_fields.specs.declared.fields.Fingerprint.{Fingerprint}
use Rattle.log_fields.specs.declared.fields.Fingerprint.TheVariants as fingerprint
use Rattle.log_fields.specs.declared.fields.SideTraffic.{SideTraffic}
use Rattle.log_fields.specs.declared.fields.SideTraffic.TheVariants as traffic
use Rattle.log_fields.specs.declared.fields.Encapsulation.{Encapsulation}
use Rattle.log_fields.specs.declared.fields.Encapsulation.TheVariants as encapsulation

-- Nanoseconds as seconds, to the microsecond.
abbrev pub time_data : ℕ → Data
time_data nanoseconds = seconds_data (nanoseconds / 1000)

-- A count; 0 is left out.
unfoldable pub some_count : ℕ → Option Data
some_count n = cond (n == 0) None (Some (count_data n))

-- A number, if there is one.
unfoldable pub some_number : Option ℕ → Option Data
some_number = option_map count_data

-- A number of 2 bytes, if there is one.
unfoldable pub some_code : Option ℕ → Option Data
some_code = option_map (λ n. text_data (number_text n))

-- A mark, if it is known.
unfoldable pub some_truth : Option Bool → Option Data
some_truth = option_map mark_data

abbrev pub uid_value : Summary → Option Data
uid_value s =
    Some
    (text_data (uid_of s.protocol s.originator.end s.responder.end (s.first_time / 1000)))

abbrev pub community_id_value : Summary → Option Data
community_id_value s =
    Some (text_data (community_id_of s.protocol s.originator.end s.responder.end))

-- The identity of a connection, at a time.
abbrev pub identity_value : Identity → Summary → ℕ → Option Data
identity_value identity.Time s time = Some (time_data time)
identity_value identity.Uid s time = uid_value s
identity_value identity.Originator s time = Some (text_data (ip_text s.originator.end.address))
identity_value identity.OriginatorPort s time = Some (count_data s.originator.end.port)
identity_value identity.Responder s time = Some (text_data (ip_text s.responder.end.address))
identity_value identity.ResponderPort s time = Some (count_data s.responder.end.port)
identity_value identity.Protocol s time = Some (text_data (protocol_text s.protocol))
identity_value identity.CommunityId s time = community_id_value s
identity_value identity.Duration s time = Some (time_data (s.last_time - s.first_time))

-- A server name behind the number of its type.
abbrev pub typed_name_text : ServerName → List ℕ
typed_name_text n = typed_text n.name_type n.name

unfoldable pub some_alert : Option ℕ → Option Data
some_alert = option_map (λ n. text_data (alert_text n))

abbrev pub negotiation_value : Negotiation → Suites → HandshakeSummary → Option Data
negotiation_value negotiation.Version s h = some_version (hello.version h)
negotiation_value negotiation.Cipher s h = some_suite s (hello.cipher h)
negotiation_value negotiation.Curve s h = some_group h.curve
negotiation_value negotiation.ServerName s h = some_escaped (hello.server_name h)
negotiation_value negotiation.OtherServerNames s h =
    some_texts (map typed_name_text (hello.other_server_names h))
negotiation_value negotiation.NextProtocol s h = some_escaped (hello.next_protocol h)
negotiation_value negotiation.LastAlert s h = some_alert h.last_alert

-- The event that ended the handshake without success.
unfoldable pub some_stop : Option Stop → Option Data
some_stop = option_map
    (λ s. stop_data (kind_text s.event.symbol.kind) (is_clients s.event.symbol.direction) s.place)

-- Bytes of a side's stream, or its first messages, are missing.
abbrev pub has_gap : Party → Bool
has_gap p = p.lacks_front || lacks p.stream.now p.stream.now.reading

-- The letters of a connection's events, if there are any.
unfoldable pub some_letters : List ℕ → Option Data
some_letters letters = cond (is_empty letters) None (Some (text_data (escaped_text letters)))

abbrev pub lifecycle_value : Lifecycle → Summary → HandshakeSummary → Option Data
lifecycle_value lifecycle.Resumed s h = Some (mark_data s.is_resumed)
lifecycle_value lifecycle.Established s h = Some (mark_data s.is_established)
lifecycle_value lifecycle.Outcome s h = Some (text_data (outcome_text s.outcome))
lifecycle_value lifecycle.Stop s h = some_stop s.stop
lifecycle_value lifecycle.Gap s h =
    some_text (gap_text (has_gap s.originator) (has_gap s.responder))
lifecycle_value lifecycle.EndedEarly s h = marked s.is_ended_early
lifecycle_value lifecycle.History s h = some_letters s.history.now
lifecycle_value lifecycle.Retried s h = marked h.is_retried

-- The cipher suites that the client offers, or the CipherSpecs of an SSL 2.0 hello.
abbrev pub suites_or_specs : Suites → Option (List ℕ) → List ℕ → List (List ℕ)
suites_or_specs s (Some specs) offered = map (spec_text s) specs
suites_or_specs s None offered = map (suite_text s) offered

abbrev pub client_suites : Suites → HandshakeSummary → List (List ℕ)
client_suites s h = suites_or_specs s h.ssl2_cipher_specs (hello.client_ciphers h)

abbrev pub offer_value : Offer → Suites → HandshakeSummary → Option Data
offer_value offer.Version s h = some_version (hello.client_version h)
offer_value offer.Versions s h = some_texts (map version_text (hello.client_versions h))
offer_value offer.SessionId s h = some_digits (hello.client_session_id h)
offer_value offer.Ciphers s h = some_texts (client_suites s h)
offer_value offer.Compressions s h = some_numbers (hello.client_compressions h)
offer_value offer.ExtensionTypes s h =
    some_texts (map extension_text (hello.client_extension_types h))
offer_value offer.Groups s h = some_texts (map group_text (hello.client_groups h))
offer_value offer.PointFormats s h = some_numbers (hello.client_point_formats h)
offer_value offer.SignatureAlgorithms s h =
    some_texts (map scheme_text (hello.client_signature_algorithms h))
offer_value offer.Protocols s h = some_texts (map escaped_text (hello.client_protocols h))
offer_value offer.KeyShareGroups s h =
    some_texts (map group_text (map (λ e. e.kind) (hello.client_key_shares h)))
offer_value offer.PskModes s h = some_numbers (hello.client_psk_modes h)
offer_value offer.Psk s h = marked (hello.offers_pre_shared_key h)
offer_value offer.EarlyData s h = marked (hello.offers_early_data h)
offer_value offer.Ticket s h = marked (hello.offers_ticket h)
offer_value offer.Cookie s h = marked (hello.has_cookie h)
offer_value offer.EncryptedClientHello s h = marked (hello.offers_encrypted_client_hello h)
offer_value offer.EchConfigId s h =
    some_number (option_map (λ e. e.config_id) (hello.client_encrypted_hello h))
offer_value offer.EchKdf s h = some_code (option_map (λ e. e.kdf) (hello.client_encrypted_hello h))
offer_value offer.EchAead s h =
    some_code (option_map (λ e. e.aead) (hello.client_encrypted_hello h))
offer_value offer.EchRepeated s h = some_truth (hello.repeats_encrypted_client_hello h)
offer_value offer.DelegatedCredentials s h = marked (hello.offers_delegated_credentials h)
offer_value offer.Ssl2Hello s h = marked (is_some h.ssl2_cipher_specs)

abbrev pub answer_value : Answer → HandshakeSummary → Option Data
answer_value answer.Version h = some_version (hello.server_version h)
answer_value answer.SessionId h = some_digits (hello.server_session_id h)
answer_value answer.Compression h = some_number (hello.server_compression h)
answer_value answer.ExtensionTypes h =
    some_texts (map extension_text (hello.server_extension_types h))
answer_value answer.KeyShareGroup h = some_group (hello.server_key_share h)
answer_value answer.DhBits h = some_number h.dh_bits
answer_value answer.Timestamps h = some_count (hello.server_timestamp_count h)
answer_value answer.Ticket h = marked h.has_ticket
answer_value answer.TicketLifetime h = some_number h.ticket_lifetime_hint
answer_value answer.Status h = marked h.has_status

-- The number of certificates in a chain, if one was sent.
abbrev pub count_value : Option (List CertificateSummary) → Option Data
count_value = option_map (λ c. count_data (length c))

-- The certificates of a chain.
abbrev pub chain_of : Option (List CertificateSummary) → List CertificateSummary
chain_of None = []
chain_of (Some c) = c

abbrev pub lengths_of : List CertificateSummary → List ℕ
lengths_of = map (λ c. c.length)

-- Their SHA-256.
abbrev pub sums_of : List CertificateSummary → List Bytes
sums_of = map (λ c. c.sha256)

-- A certificate that can't be parsed, by its position, and why.
abbrev pub fault_at : ℕ → Option CertificateFault → List Bytes
fault_at n None = []
fault_at n (Some fault) = (decimal n ++ codes ":" ++ fault_text fault) ∷ []

-- Those of a chain; its first certificate has this position.
abbrev pub faults_from : ℕ → List CertificateSummary → List Bytes
faults_from n [] = []
faults_from n (c ∷ cs) = fault_at n c.fault ++ faults_from (n + 1) cs

-- The host that the client asked for is one of the certificate's names.
abbrev pub host_match : Option Bytes → Option ReadFields → Option Data
host_match (Some host) (Some read) = option_map mark_data (names_host_in host read)
host_match (Some host) None = None
host_match None certificate = None

abbrev pub match_value : Known → Option Data
match_value k = host_match (hello.server_name k.handshake) k.server

-- The server's certificate isn't valid at the connection's first packet.
abbrev pub expired_at : Option ReadFields → ℕ → Option Data
expired_at None time = None
expired_at (Some read) time = marked (has_expired read time)

abbrev pub not_yet_valid_at : Option ReadFields → ℕ → Option Data
not_yet_valid_at None time = None
not_yet_valid_at (Some read) time = marked (is_not_yet_valid read time)

abbrev pub expired_value : Known → Option Data
expired_value k = expired_at k.server k.summary.first_time

abbrev pub not_yet_valid_value : Known → Option Data
not_yet_valid_value k = not_yet_valid_at k.server k.summary.first_time

-- What the stapled OCSP response says about the server's certificate.
abbrev pub stapled_in : Known → Option StapledStatus
stapled_in k = stapled_by k.handshake.ocsp_response (serial_of k.server)

abbrev pub chain_value : Chain → Known → Option Data
chain_value chain.ServerCount k = count_value k.handshake.server_certificates
chain_value chain.ServerLengths k =
    some_numbers (lengths_of (chain_of k.handshake.server_certificates))
chain_value chain.ServerFingerprints k =
    some_texts (map encode_lower (sums_of (chain_of k.handshake.server_certificates)))
chain_value chain.TimestampLogs k = logs_value (hello.server_timestamps k.handshake)
chain_value chain.TimestampTimes k = times_value (hello.server_timestamps k.handshake)
chain_value chain.OcspStatus k = stapled_status_value (stapled_in k)
chain_value chain.OcspThisUpdate k = this_update_value (stapled_in k)
chain_value chain.OcspNextUpdate k = next_update_value (stapled_in k)
chain_value chain.OcspRevokedAt k = revoked_at_value (stapled_in k)
chain_value chain.OcspTimestamps k = stapled_count_value (stapled_in k)
chain_value chain.OcspTimestampLogs k = stapled_logs_value (stapled_in k)
chain_value chain.OcspTimestampTimes k = stapled_times_value (stapled_in k)
chain_value chain.ServerOrder k = some_truth k.handshake.server_chain_order
chain_value chain.Requested k = marked k.handshake.requests_certificate
chain_value chain.ClientCount k = count_value k.handshake.client_certificates
chain_value chain.ClientLengths k =
    some_numbers (lengths_of (chain_of k.handshake.client_certificates))
chain_value chain.ClientFingerprints k =
    some_texts (map encode_lower (sums_of (chain_of k.handshake.client_certificates)))
chain_value chain.ClientOrder k = some_truth k.handshake.client_chain_order
chain_value chain.NameMatches k = match_value k
chain_value chain.Expired k = expired_value k
chain_value chain.NotYetValid k = not_yet_valid_value k
-- (validates nothing)
chain_value chain.Validation k = None
chain_value chain.ServerFaults k =
    some_texts (faults_from 0 (chain_of k.handshake.server_certificates))
chain_value chain.ClientFaults k =
    some_texts (faults_from 0 (chain_of k.handshake.client_certificates))

-- A field of a side's own certificate.
abbrev pub own_value : CertificateField → Option ReadFields → Option (Option Data)
own_value f None = Some None
own_value f (Some read) = certificate_value f read

-- The transport of a hello.
abbrev pub transport_of : Protocol → Transport
transport_of Tcp = over.Tcp
transport_of Udp = over.Udp

-- A fingerprint, if there is what it is of.
abbrev pub some_print : {A : Type 0} → (A → Bytes) → Option A → Option Data
some_print print = option_map (λ a. text_data (print a))

abbrev pub fingerprint_value : Fingerprint → Known → Option Data
fingerprint_value fingerprint.Ja3 k = some_print ja3_of (printed_client k.handshake)
fingerprint_value fingerprint.Ja3Text k = some_print ja3_text_of (printed_client k.handshake)
fingerprint_value fingerprint.Ja3s k = some_print digest_of k.ja3s_text
fingerprint_value fingerprint.Ja3sText k = option_map text_data k.ja3s_text
fingerprint_value fingerprint.Ja4 k =
    some_print (ja4_of (transport_of k.summary.protocol)) (printed_client k.handshake)

-- A side of a connection.
abbrev pub party_of : Side → Summary → Party
party_of Originator s = s.originator
party_of Responder s = s.responder

-- The bytes that a side sent: over TCP by sequence numbers.
abbrev pub bytes_sent : Protocol → Party → ℕ
bytes_sent Tcp p = p.stream.now.length
bytes_sent Udp p = p.sent.bytes

-- The name of a reason, if packets were dropped for it.
abbrev pub reason_if : Dropped → DropReason → List (List ℕ)
reason_if d r = cond (has_reason d r) (reason_text r ∷ []) []

-- Why packets were dropped, each reason once.
unfoldable pub reasons_value : Dropped → Option Data
reasons_value d =
    cond (d.packets == 0) None (Some (text_list (flat_map (reason_if d) drop_reasons)))

-- What a side sent.
abbrev pub traffic_value : SideTraffic → Protocol → Party → Option Data
traffic_value traffic.Packets protocol p = Some (count_data p.sent.packets)
traffic_value traffic.Bytes protocol p = Some (count_data (bytes_sent protocol p))
traffic_value traffic.Records protocol p = Some (count_data p.records)
traffic_value traffic.Repeated protocol p = some_count p.stream.now.repeated
traffic_value traffic.Disagreeing protocol p = some_count p.stream.now.disagreeing
traffic_value traffic.Dropped protocol p = some_count p.dropped.packets
traffic_value traffic.DroppedFor protocol p = reasons_value p.dropped
traffic_value traffic.Preamble protocol p = some_count p.preamble

-- The tunnels around a connection, outermost first, and the identifier of each, 0 if it has none.
abbrev pub tunnels_value : List Tunnel → Option Data
tunnels_value ts = some_texts (map (λ t. tunnel_text t.kind) ts)

abbrev pub tunnel_ids_value : List Tunnel → Option Data
tunnel_ids_value ts = some_numbers (map (λ t. unwrap_or t.id 0) ts)

-- What came around TLS: what found it behind other bytes, and the tunnels.
abbrev pub encapsulation_value : Encapsulation → Summary → Option Data
encapsulation_value encapsulation.FoundBy s =
    some_text
    (found_by_text s.dialogue (s.originator.preamble == 0) (s.responder.preamble == 0))
encapsulation_value encapsulation.Tunnels s = tunnels_value s.tunnels.now
encapsulation_value encapsulation.TunnelIds s = tunnel_ids_value s.tunnels.now

-- The value of a field: None if it is left out. Some fields of certificates have no definition:
-- these have no value here.
abbrev pub defined_value : Field → Known → Option (Option Data)
defined_value (field.Identity f) k = Some (identity_value f k.summary k.summary.first_time)
defined_value (field.Negotiation f) k = Some (negotiation_value f k.suites k.handshake)
defined_value (field.Lifecycle f) k = Some (lifecycle_value f k.summary k.handshake)
defined_value (field.Offer f) k = Some (offer_value f k.suites k.handshake)
defined_value (field.Answer f) k = Some (answer_value f k.handshake)
defined_value (field.Chain f) k = Some (chain_value f k)
defined_value (field.ServerCertificate f) k = own_value f k.server
defined_value (field.ClientCertificate f) k = own_value f k.client
defined_value (field.Fingerprint f) k = Some (fingerprint_value f k)
defined_value (field.SideTraffic side f) k =
    Some (traffic_value f k.summary.protocol (party_of side k.summary))
defined_value (field.Encapsulation f) k = Some (encapsulation_value f k.summary)

-- How TLS and DTLS begin.
use Rattle.std.specs.Prelude.{ℕ, Bool, false, ◌&&◌, ◌||◌, ◌==◌, nat_le, nat_lt, if◌then◌else◌, Option, Some, None, is_some, Ok, Err, [], ◌∷◌, length, drop, slice_index}
use Rattle.layouts.specs.Bytes.{Bytes}
use Rattle.layouts.specs.Meaning.{Answer}
use Rattle.layouts.specs.Reading.{reading}
use Rattle.raw_records.specs.Framing.{max_fragment_length}
use Rattle.raw_records.specs.RawRecord as stream
use Rattle.raw_records.specs.RawDtlsRecord as datagram

abbrev pub is_within : ℕ → ℕ → ℕ → Bool
is_within least most n = nat_le least n && nat_le n most

-- The header of a TLS record (RFC 8446, section 5.1): a known content type, the major version 3,
-- and a length within the limit. The rest of the version is ignored for all purposes; a ClientHello
-- may have any value 03 XX (RFC 5246, appendix E.1).
abbrev pub is_front : stream.RecordHeader → Bool
is_front h = is_within 20 24 h.content_type && is_within 0x0300 0x03ff h.version
    && nat_le h.length max_fragment_length

abbrev pub is_front_in : Answer stream.RecordHeader → Bool
is_front_in (Ok x) = is_front x.0
is_front_in (Err e) = false

-- A stream begins with such a header.
abbrev pub begins_tls : Bytes → Bool
begins_tls b = is_front_in (reading stream.record_header b)

-- Whether a stream begins as TLS; undecided for fewer bytes than a header.
abbrev pub looks_like_tls : Bytes → Option Bool
looks_like_tls b = if nat_lt (length b) 5 then None else Some (begins_tls b)

-- The type of the handshake message that a stream begins with.
abbrev pub first_message_in : Answer stream.RecordHeader → Option ℕ
first_message_in (Ok (h, [])) = None
first_message_in (Ok (h, kind ∷ b)) = if is_front h && h.content_type == 22 then Some kind else None
first_message_in (Err e) = None

abbrev pub first_message : Bytes → Option ℕ
first_message b = first_message_in (reading stream.record_header b)

-- The versions of DTLS records: the major version is 254. The minor one is ignored: at the
-- beginning of an association it gives the layout of packets, and not the version that is spoken
-- (RFC 6347, section 4.2.1). OpenSSL used 0x0100 before RFC 4347.
unfoldable pub is_datagram_version : ℕ → Bool
is_datagram_version n = is_within 0xfe00 0xfeff n || n == 0x0100

-- The header of a DTLS record (RFC 6347, section 4.1) before these bytes of its datagram: a known
-- content type, a version of DTLS, and a length that fits in the datagram.
abbrev pub is_front_of_datagram : datagram.RecordHeader → Bytes → Bool
is_front_of_datagram h b = is_within 20 24 h.content_type && is_datagram_version h.version
    && nat_le h.length (length b)

abbrev pub epoch_in : Answer datagram.RecordHeader → Option ℕ
epoch_in (Ok x) = if is_front_of_datagram x.0 x.1 then Some x.0.epoch else None
epoch_in (Err e) = None

-- The epoch of the record that a datagram begins with.
abbrev pub front_epoch : Bytes → Option ℕ
front_epoch b = epoch_in (reading datagram.record_header b)

-- The DTLS datagram inside a UDP datagram. CAPWAP puts a header of 4 bytes before it: version 0,
-- type 1, and 3 bytes of 0 (RFC 5415, section 4.2).
abbrev pub has_capwap_header : Bytes → Bool
has_capwap_header b =
    nat_le 4 (length b)
    && ((slice_index b 0 == 1)
    && ((slice_index b 1 == 0) && ((slice_index b 2 == 0) && (slice_index b 3 == 0))))

abbrev pub held_datagram : Bytes → Bytes
held_datagram b = if has_capwap_header b && is_some (front_epoch (drop 4 b)) then drop 4 b else b

-- How many records datagrams have (RFC 6347, section 4.1).
use Rattle.std.specs.Prelude.{ℕ, Bool, ◌+◌, ◌-◌, ◌^◌, ◌==◌, ◌&&◌, ◌||◌, min, if◌then◌else◌, List, [], ◌∷◌}
use Rattle.layouts.specs.Bytes.{Bytes}
use Rattle.layouts.specs.Items.{items_in}
use Rattle.raw_records.specs.RawDtlsRecord.{RecordHeader}
use Rattle.raw_records.specs.DatagramRecord.{ConnectionId, DatagramRecord, Encrypted, Plaintext, datagram_record13}
use Rattle.tls_detection.specs.Front.{is_datagram_version, is_within}
use Rattle.dtls_analyzer.specs.declared.datagram_records.DatagramRecordCounter.{DatagramRecordCounter}

-- A known content type, including 26, the acknowledgments of DTLS 1.3 (RFC 9147, section 7), and a
-- version of DTLS.
abbrev pub is_known : RecordHeader → Bool
is_known h = (is_within 20 24 h.content_type || h.content_type == 26)
    && is_datagram_version h.version

-- Whether a record of any form counts. One in the form of DTLS 1.3 counts if that was negotiated.
abbrev pub is_record : Bool → DatagramRecord → Bool
is_record is_13 (Plaintext r) = is_known r.header
is_record is_13 (ConnectionId r) = is_datagram_version r.header.fields.version
is_record is_13 (Encrypted r) = is_13

-- No datagram came.
abbrev pub no_datagrams : DatagramRecordCounter
no_datagrams = record { count = 0 }

-- Counts each record up to the first that doesn't count. The count saturates.
abbrev pub with_records : Bool → List DatagramRecord → DatagramRecordCounter → DatagramRecordCounter
with_records is_13 [] r = r
with_records is_13 (x ∷ xs) r =
    if is_record is_13 x then
    with_records is_13 xs (record { count = min (r.count + 1) (2 ^ 64 - 1) }) else r

-- Counts the records at the beginning of a datagram, with connection IDs of this length.
abbrev pub with_datagram : Bool → ℕ → Bytes → DatagramRecordCounter → DatagramRecordCounter
with_datagram is_13 id_length b r = with_records is_13 (items_in (datagram_record13 id_length) b) r

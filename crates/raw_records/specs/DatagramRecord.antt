-- The records of a datagram of DTLS, of versions up to 1.3 (RFC 9147, section 4.1).
use Rattle.std.specs.Prelude.{ℕ, ◌+◌, ◌/◌, ◌%◌, ◌^◌, ◌==◌, ◌&&◌, ◌||◌, cond, nat_le, nat_lt, Bool}
use Rattle.layouts.specs.Bytes.{Bytes}
use Rattle.layouts.specs.Layout.{Layout, done, refuse, number, block, look, test, choose, mapped, ◌>>=◌, ◌>>◌}
use Rattle.layouts.specs.declared.result.ErrorKind.TheVariants.{Switch, TooLarge, Verify}
use Rattle.raw_records.specs.Framing.{max_encrypted_length, max_fragment_length}
use Rattle.raw_records.specs.RawDtlsRecord.{RawRecord, RecordHeader, record_header, view_header, view_raw_record}
use Rattle.raw_records.specs.Ciphertext.{Ciphertext, ciphertext, fixed_bits, view_ciphertext}
use Rattle.raw_records.specs.declared.datagram_record.ConnectionIdHeader.{ConnectionIdHeader as LentHeader}
use Rattle.raw_records.specs.declared.datagram_record.ConnectionIdRecord.{ConnectionIdRecord as LentRecord}
use Rattle.raw_records.specs.declared.datagram_record.DatagramRecord.{DatagramRecord as LentDatagramRecord}
use Rattle.raw_records.specs.declared.datagram_record.DatagramRecord.TheVariants as lent

-- The limit for a record's length: 2^14 + 2048 (RFC 5246, section 6.2.3) in the epochs above 0,
-- which are encrypted, else the limit of a plaintext record.
abbrev pub limit : RecordHeader → ℕ
limit h = cond (nat_lt 0 h.epoch) max_encrypted_length max_fragment_length

-- The content after this header.
unfoldable pub content : RecordHeader → Layout Bytes
content h = do
  test (nat_le h.length (limit h)) TooLarge
  block h.length

-- A record with its content unparsed.
unfoldable pub datagram_record : Layout RawRecord
datagram_record = do
  h ← record_header
  bytes ← content h
  done (record { header = h; fragment = bytes })

-- The header of a DTLS 1.2 record with a connection ID.
pub record ConnectionIdHeader : Type 0 where
  pub fields : RecordHeader
  pub connection_id : Bytes

abbrev pub view_connection_id_header : LentHeader → ConnectionIdHeader
view_connection_id_header h =
    record { fields = view_header h.fields; connection_id = h.connection_id.now }

-- Type, version, epoch, sequence number, connection ID, length (RFC 9146, section 4, figure 3). An
-- empty connection ID isn't sent in this form (RFC 9146, section 3).
unfoldable pub connection_id_header : ℕ → Layout ConnectionIdHeader
connection_id_header id_length = do
  test (nat_le 1 id_length) Verify
  kind ← number 1
  version ← number 2
  counter ← number 8
  id ← block id_length
  length ← number 2
  done (record {
    fields = record {
      content_type = kind;
      version = version;
      epoch = counter / 2 ^ 48;
      sequence_number = counter % 2 ^ 48;
      length = length;
    };
    connection_id = id;
  })

pub record ConnectionIdRecord : Type 0 where
  pub header : ConnectionIdHeader
  pub fragment : Bytes

abbrev pub view_connection_id_record : LentRecord → ConnectionIdRecord
view_connection_id_record r =
    record { header = view_connection_id_header r.header; fragment = r.fragment.now }

-- A DTLS 1.2 record with a connection ID. It is encrypted, so it has at most 2^14 + 2048 bytes (RFC
-- 5246, section 6.2.3).
unfoldable pub connection_id_record : ℕ → Layout ConnectionIdRecord
connection_id_record id_length = do
  header ← connection_id_header id_length
  test (nat_le header.fields.length (2 ^ 14 + 2048)) TooLarge
  fragment ← block header.fields.length
  done (record { header = header; fragment = fragment })

pub data DatagramRecord : Type 0 where
  -- in the form of DTLSPlaintext, which every record has up to DTLS 1.2
  Plaintext : RawRecord → DatagramRecord
  -- of DTLS 1.2, with a connection ID
  ConnectionId : ConnectionIdRecord → DatagramRecord
  -- of DTLS 1.3, encrypted
  Encrypted : Ciphertext → DatagramRecord

abbrev pub view_datagram_record : LentDatagramRecord → DatagramRecord
view_datagram_record (lent.Plaintext r) = Plaintext (view_raw_record r)
view_datagram_record (lent.ConnectionId r) = ConnectionId (view_connection_id_record r)
view_datagram_record (lent.Ciphertext c) = Encrypted (view_ciphertext c)

-- change_cipher_spec, alert, handshake, application_data, heartbeat; ack (RFC 9147, sections 4.1
-- and 7).
abbrev pub is_plaintext : ℕ → Bool
is_plaintext kind = nat_le 20 kind && nat_le kind 24 || kind == 26

-- By the first byte (RFC 9147, section 4.1, figure 5): 25 is tls12_cid, and DTLSCiphertext begins
-- with the bits 001. The byte is peeked at and not consumed.
unfoldable pub datagram_record13 : ℕ → Layout DatagramRecord
datagram_record13 id_length = do
  first ← look (number 1)
  choose (is_plaintext first) (mapped Plaintext datagram_record) (
      choose (first == 25) (mapped ConnectionId (connection_id_record id_length)) (
      choose (fixed_bits first == 1) (mapped Encrypted (ciphertext id_length)) (
      refuse Switch)))

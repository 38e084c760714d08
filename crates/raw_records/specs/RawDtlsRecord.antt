-- Records of DTLS with unparsed fragments (RFC 6347, section 4.1).
use Rattle.std.specs.Prelude.{ℕ, ◌/◌, ◌%◌, ◌^◌}
use Rattle.layouts.specs.Bytes.{Bytes}
use Rattle.layouts.specs.Layout.{Layout, done, number, ◌>>=◌}
use Rattle.raw_records.specs.Framing.{framed_raw_record}
use Rattle.raw_records.specs.declared.dtls_record.DTLSRecordHeader.{DTLSRecordHeader}
use Rattle.raw_records.specs.declared.dtls_record.DTLSRawRecord.{DTLSRawRecord}

-- The header of a record, with the length of the fragment in bytes.
pub record RecordHeader : Type 0 where
  pub content_type : ℕ
  pub version : ℕ
  pub epoch : ℕ
  pub sequence_number : ℕ
  pub length : ℕ

abbrev pub view_header : DTLSRecordHeader → RecordHeader
view_header h = record {
  content_type = h.content_type.0;
  version = h.version.0;
  epoch = h.epoch;
  sequence_number = h.sequence_number;
  length = h.length;
}

-- ContentType type; ProtocolVersion version; uint16 epoch; uint48 sequence_number; uint16 length.
-- Epoch and sequence number are read as one number of 8 bytes.
unfoldable pub record_header : Layout RecordHeader
record_header = do
  kind ← number 1
  version ← number 2
  counter ← number 8
  length ← number 2
  done (record {
    content_type = kind;
    version = version;
    epoch = counter / 2 ^ 48;
    sequence_number = counter % 2 ^ 48;
    length = length;
  })

-- A record whose fragment isn't parsed.
pub record RawRecord : Type 0 where
  pub header : RecordHeader
  pub fragment : Bytes

abbrev pub view_raw_record : DTLSRawRecord → RawRecord
view_raw_record r = record { header = view_header r.header; fragment = r.fragment.now }

unfoldable pub raw_record : Layout RawRecord
raw_record = framed_raw_record record_header (λ h. h.length)
    (λ h fragment. record { header = h; fragment = fragment })

-- Records of TLS with unparsed fragments (RFC 5246, section 6.2).
use Rattle.std.specs.Prelude.{◌≡◌, ℕ, ◌+◌, ◌≤◌, ◌++◌, length, take}
use Rattle.layouts.specs.Bytes.{Bytes}
use Rattle.layouts.specs.Layout.{Layout, done, number, ◌>>=◌}
use Rattle.raw_records.specs.Framing.{framed_raw_record}
use Rattle.raw_records.specs.declared.record.TlsRecordHeader.{TlsRecordHeader}
use Rattle.raw_records.specs.declared.record.TlsRawRecord.{TlsRawRecord}
use Rattle.raw_records.specs.declared.record.TlsEncrypted.{TlsEncrypted}

-- The header of a record, with the length of the fragment in bytes.
pub record RecordHeader : Type 0 where
  pub content_type : ℕ
  pub version : ℕ
  pub length : ℕ

abbrev pub view_header : TlsRecordHeader → RecordHeader
view_header h = record { content_type = h.record_type.0; version = h.version.0; length = h.len }

-- ContentType type; ProtocolVersion version; uint16 length
unfoldable pub record_header : Layout RecordHeader
record_header = do
  kind ← number 1
  version ← number 2
  length ← number 2
  done (record { content_type = kind; version = version; length = length })

-- A record whose fragment isn't parsed.
pub record RawRecord : Type 0 where
  pub header : RecordHeader
  pub fragment : Bytes

abbrev pub view_raw_record : TlsRawRecord → RawRecord
view_raw_record r = record { header = view_header r.hdr; fragment = r.bytes.now }

-- An encrypted record is one of these: a TLSCiphertext (RFC 5246, section 6.2.3).
abbrev pub view_encrypted : TlsEncrypted → RawRecord
view_encrypted r = record { header = view_header r.hdr; fragment = r.msg.blob.now }

unfoldable pub raw_record : Layout RawRecord
raw_record = framed_raw_record record_header (λ h. h.length)
    (λ h fragment. record { header = h; fragment = fragment })

-- The bytes of the raw record v at the start of b: the 5 of its header, and as many as the length
-- there.
abbrev pub record_bytes : RawRecord → Bytes → Bytes
record_bytes v b = take (5 + v.header.length) b

-- b begins with the raw record v: its bytes are all there, its fragment is those after its header,
-- and r follows.
pub record IsInFront (v : RawRecord) (b r : Bytes) : Type 0 where
  pub is_whole : 5 + v.header.length ≤ length b
  pub has_fragment : record_bytes v b ≡ take 5 b ++ v.fragment
  pub then_rest : b ≡ record_bytes v b ++ r

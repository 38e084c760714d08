-- Records of TLS (RFC 5246, section 6.2).
use Rattle.std.specs.Prelude.{List, [], ◌∷◌, map, Ok, ◌==◌}
use Rattle.layouts.specs.Bytes.{Bytes}
use Rattle.layouts.specs.Layout.{Layout, refuse, complete, list1, mapped, choose}
use Rattle.layouts.specs.Meaning.{Answer}
use Rattle.layouts.specs.Reading.{reading, ◌and_then◌}
use Rattle.layouts.specs.declared.result.ErrorKind.TheVariants.{Switch}
use Rattle.tls_hs.specs.Message.{Message, view_message, change_cipher_spec, alert, handshake, application_data}
use Rattle.tls_hs.specs.Message.{heartbeat}
use Rattle.raw_records.specs.Framing.{framed_record}
pub use Rattle.raw_records.specs.RawRecord.{RecordHeader, view_header, record_header, RawRecord, view_raw_record}
pub use Rattle.raw_records.specs.RawRecord.{view_encrypted, raw_record, record_bytes, IsInFront}
use Rattle.tls_records.specs.declared.plaintext.TlsPlaintext.{TlsPlaintext}

-- The messages in the fragment of a record with this header. Application data is one message. So is
-- a Heartbeat; bytes missing from it are missing from a complete record, so no further bytes can
-- supply them.
unfoldable pub record_content : RecordHeader → Layout (List Message)
record_content header =
    choose (header.content_type == 20) (list1 change_cipher_spec) (
    choose (header.content_type == 21) (list1 alert) (
    choose (header.content_type == 22) (list1 handshake) (
    choose (header.content_type == 23) (mapped (λ m. m ∷ []) application_data) (
    choose (header.content_type == 24) (complete (heartbeat header.length)) (
    refuse Switch)))))

-- A record with its messages: a TLSPlaintext (RFC 5246, section 6.2.1).
pub record Plaintext : Type 0 where
  pub header : RecordHeader
  pub messages : List Message

abbrev pub view_plaintext : TlsPlaintext → Plaintext
view_plaintext p = record { header = view_header p.hdr; messages = map view_message p.msg.items }

unfoldable pub plaintext : Layout Plaintext
plaintext =
    framed_record record_header (λ h. h.length) record_content
    (λ h messages. record { header = h; messages = messages })

-- Parses the content of a raw record: the record with its messages, and the rest after the
-- fragment.
abbrev pub read_content : RawRecord × Bytes → Answer Plaintext
read_content x =
    reading (record_content x.0.header) x.0.fragment and_then λ m. Ok
    (record { header = x.0.header; messages = m.0 }, x.1)

-- Records of DTLS (RFC 6347, section 4.1) and their messages.
use Rattle.std.specs.Prelude.{List, map, Ok, ◌==◌}
use Rattle.layouts.specs.Bytes.{Bytes}
use Rattle.layouts.specs.Layout.{Layout, refuse, list1, mapped, choose}
use Rattle.layouts.specs.Meaning.{Answer}
use Rattle.layouts.specs.Reading.{reading, ◌and_then◌}
use Rattle.layouts.specs.declared.result.ErrorKind.TheVariants.{Switch}
use Rattle.tls_base.specs.Alert as base_alert
use Rattle.tls_hs.specs.Message as tls_message
use Rattle.dtls_records.specs.DtlsHandshake as dtls_handshake
use Rattle.raw_records.specs.Framing.{framed_record}
pub use Rattle.raw_records.specs.RawDtlsRecord.{RecordHeader, view_header, record_header, RawRecord}
pub use Rattle.raw_records.specs.RawDtlsRecord.{view_raw_record, raw_record}
use Rattle.dtls_records.specs.declared.message.DTLSMessage.{DTLSMessage}
use Rattle.dtls_records.specs.declared.message.DTLSMessage.TheVariants as dtls_message
use Rattle.dtls_records.specs.declared.record.DTLSPlaintext.{DTLSPlaintext}

-- The value of a message, regardless of its place in memory.
pub data Message : Type 0 where
  Handshake : dtls_handshake.Handshake → Message
  ChangeCipherSpec : Message
  Alert : base_alert.Alert → Message
  ApplicationData : Bytes → Message
  Heartbeat : tls_message.HeartbeatMessage → Message

abbrev pub view_message : DTLSMessage → Message
view_message (dtls_message.Handshake h) = Handshake (dtls_handshake.view_handshake h)
view_message dtls_message.ChangeCipherSpec = ChangeCipherSpec
view_message (dtls_message.Alert a) = Alert (base_alert.view_alert a)
view_message (dtls_message.ApplicationData d) = ApplicationData d.blob.now
view_message (dtls_message.Heartbeat h) = Heartbeat (tls_message.view_heartbeat h)

-- The message is a fragment of a handshake message (RFC 6347, section 4.2.3).
abbrev pub IsFragment : Message → Type 0
IsFragment (Handshake h) = dtls_handshake.IsFragment h.body
IsFragment m = ⊥

-- The messages that are parsed: those of TLS (RFC 5246, sections 7.1 and 7.2), and handshake
-- messages.
unfoldable pub change_cipher_spec : Layout Message
change_cipher_spec = mapped (λ _. ChangeCipherSpec) tls_message.change_cipher_spec

unfoldable pub alert : Layout Message
alert = mapped Alert base_alert.alert

unfoldable pub handshake : Layout Message
handshake = mapped Handshake dtls_handshake.handshake

-- The messages in the fragment of a record with this header.
unfoldable pub record_content : RecordHeader → Layout (List Message)
record_content header =
    choose (header.content_type == 20) (list1 change_cipher_spec) (
    choose (header.content_type == 21) (list1 alert) (
    choose (header.content_type == 22) (list1 handshake) (
    refuse Switch)))

-- A record with its messages: a DTLSPlaintext (RFC 6347, section 4.1).
pub record Plaintext : Type 0 where
  pub header : RecordHeader
  pub messages : List Message

abbrev pub view_plaintext : DTLSPlaintext → Plaintext
view_plaintext p =
    record { header = view_header p.header; messages = map view_message p.messages.items }

unfoldable pub plaintext : Layout Plaintext
plaintext =
    framed_record record_header (λ h. h.length) record_content
    (λ h messages. record { header = h; messages = messages })

-- Parses the content of a raw record: the record with its messages, and the rest after the
-- fragment.
abbrev pub read_content : RawRecord × Bytes → Answer Plaintext
read_content x =
    reading (record_content x.0.header) x.0.fragment and_then λ m. Ok
    (record { header = x.0.header; messages = m.0 }, x.1)

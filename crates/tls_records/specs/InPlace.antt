-- Records in place.
use Rattle.std.specs.Prelude.{ℕ, List, Option, Some, None, Result, Ok, Err, ◌==◌, if◌then◌else◌}
use Rattle.layouts.specs.Bytes.{Bytes}
use Rattle.layouts.specs.Meaning.{Refusal, Answer}
use Rattle.layouts.specs.Reading.{reading}
use Rattle.layouts.specs.Items.{items_in, refusal_in, decode_while}
use Rattle.layouts.specs.Text.{held}
use Rattle.tls_hs.specs.Hello.{ClientHello, client_hello}
use Rattle.tls_hs.specs.InPlace.{raw_handshake}
use Rattle.tls_hs.specs.Message.{Message}
use Rattle.tls_hs.specs.Messages.{message_of, messages_of_type, raw_messages}
use Rattle.tls_ext.specs.InPlace.{first_of, found, host_name}
pub use Rattle.raw_records.specs.First.{judged, first_judged, as_complete}
use Rattle.raw_records.specs.RawRecord.{RawRecord, raw_record, view_header}
use Rattle.tls_records.specs.Record.{Plaintext}
use Rattle.tls_records.specs.declared.plaintext_view.PlaintextView.{PlaintextView}
use Rattle.raw_records.specs.declared.record.TlsRecordHeader.{TlsRecordHeader}

-- The value of a record in place: its messages are the decoded ones, up to the first that is
-- refused.
abbrev pub view_plaintext_in_place : PlaintextView → Plaintext
view_plaintext_in_place p = record {
  header = view_header p.hdr;
  messages = decode_while message_of (raw_messages p.msg);
}

-- The decoded messages of a fragment after this header.
abbrev pub messages_of_fragment : TlsRecordHeader → Bytes → List Message
messages_of_fragment h b = decode_while message_of (messages_of_type h.record_type.0 h.len b)

-- The body of the first handshake message with this type. If there is none, the refusal that ended
-- the messages before the end of their bytes, if there was one.
abbrev pub body_of_type : ℕ → Bytes → Result (Option Bytes) Refusal
body_of_type msg_type b =
    found (first_of msg_type (items_in raw_handshake b)) (refusal_in raw_handshake b)

abbrev pub name_in_hello : Answer ClientHello → Result (Option Bytes) Refusal
name_in_hello (Ok h) = host_name (held h.0.extensions)
name_in_hello (Err e) = Err e

abbrev pub name_in_body : Result (Option Bytes) Refusal → Result (Option Bytes) Refusal
name_in_body (Ok (Some body)) = name_in_hello (reading client_hello body)
name_in_body (Ok None) = Ok None
name_in_body (Err e) = Err e

abbrev pub name_in_record : Answer RawRecord → Result (Option Bytes) Refusal
name_in_record (Ok x) = if x.0.header.content_type == 22 then
    name_in_body (body_of_type 1 x.0.fragment) else Ok None
name_in_record (Err e) = Err e

-- The host name in the first ClientHello of the record at the start of b.
abbrev pub host_name_of_record : Bytes → Result (Option Bytes) Refusal
host_name_of_record b = name_in_record (reading raw_record b)

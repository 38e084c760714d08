-- Records of DTLS and their messages in place.
use Rattle.std.specs.Prelude.{ℕ, Bool, List, [], map, Result, Ok, Err, nat_lt, ◌==◌, ◌||◌, if◌then◌else◌}
use Rattle.std.specs.Option.{option_map}
use Rattle.layouts.specs.Bytes.{Bytes}
use Rattle.layouts.specs.Layout.{Layout, done, number, block, counted, ◌>>=◌}
use Rattle.layouts.specs.Meaning.{Refusal}
use Rattle.layouts.specs.Reading.{reading}
use Rattle.layouts.specs.Items.{items_in, value_of, decode_while}
use Rattle.tls_base.specs.Alert as base_alert
use Rattle.dtls_records.specs.DtlsHello as dtls_hello
use Rattle.dtls_records.specs.DtlsHandshake as dtls_handshake
use Rattle.dtls_records.specs.DtlsHandshake.{Body, body, view_body}
use Rattle.dtls_records.specs.DtlsRecord as dtls_record
use Rattle.dtls_records.specs.DtlsRecord.{Message, Plaintext, view_header}
use Rattle.dtls_records.specs.declared.hello_view.DTLSClientHelloView.{DTLSClientHelloView}
use Rattle.dtls_records.specs.declared.handshake_view.DTLSBodyView.{DTLSBodyView}
use Rattle.dtls_records.specs.declared.handshake_view.DTLSBodyView.TheVariants as in_place
use Rattle.dtls_records.specs.declared.handshake_view.DTLSRawHandshake.{DTLSRawHandshake}
use Rattle.dtls_records.specs.declared.handshake_view.DTLSHandshakeView.{DTLSHandshakeView}
use Rattle.dtls_records.specs.declared.record_view.DTLSMessages.{DTLSMessages}
use Rattle.dtls_records.specs.declared.record_view.DTLSRawMessage.{DTLSRawMessage}
use Rattle.dtls_records.specs.declared.record_view.DTLSRawMessage.TheVariants as raw
use Rattle.dtls_records.specs.declared.record_view.DTLSPlaintextView.{DTLSPlaintextView}

abbrev pub view_client_hello_in_place : DTLSClientHelloView → dtls_hello.ClientHello
view_client_hello_in_place h = record {
  hello = record {
    client_version = h.version.0;
    random = h.random.now;
    session_id = option_map (λ x. x.now) h.session_id;
    cipher_suites = items_in (number 2) h.ciphers.bytes.now;
    compression_methods = items_in (number 1) h.comp.bytes.now;
    extensions = option_map (λ x. x.now) h.ext;
  };
  cookie = h.cookie.now;
}

abbrev pub view_body_in_place : DTLSBodyView → Body
view_body_in_place (in_place.ClientHello h) =
    dtls_handshake.ClientHello (view_client_hello_in_place h)
view_body_in_place (in_place.Certificate c) =
    dtls_handshake.Certificate (items_in (counted 3) c.bytes.now)
view_body_in_place (in_place.Other b) = view_body b

-- A handshake message whose body isn't parsed.
pub record RawHandshake : Type 0 where
  pub msg_type : ℕ
  pub length : ℕ
  pub message_seq : ℕ
  pub fragment_offset : ℕ
  pub fragment_length : ℕ
  pub body : Bytes

abbrev pub view_raw_handshake : DTLSRawHandshake → RawHandshake
view_raw_handshake h = record {
  msg_type = h.msg_type.0;
  length = h.length;
  message_seq = h.message_seq;
  fragment_offset = h.fragment_offset;
  fragment_length = h.fragment_length;
  body = h.body.now;
}

-- HandshakeType msg_type; uint24 length; uint16 message_seq; uint24 fragment_offset; uint24
-- fragment_length; and the body (RFC 6347, section 4.2.2).
unfoldable pub raw_handshake : Layout RawHandshake
raw_handshake = do
  kind ← number 1
  length ← number 3
  seq ← number 2
  offset ← number 3
  fragment_length ← number 3
  bytes ← block fragment_length
  done (record {
    msg_type = kind;
    length = length;
    message_seq = seq;
    fragment_offset = offset;
    fragment_length = fragment_length;
    body = bytes;
  })

-- The body is a fragment (RFC 6347, section 4.2.3).
abbrev pub is_part : RawHandshake → Bool
is_part h = nat_lt 0 h.fragment_offset || nat_lt h.fragment_length h.length

-- The handshake message with this body, and its value as a message.
abbrev pub handshake_with : RawHandshake → Body → dtls_handshake.Handshake
handshake_with h b = record {
  msg_type = h.msg_type;
  length = h.length;
  message_seq = h.message_seq;
  fragment_offset = h.fragment_offset;
  fragment_length = h.fragment_length;
  body = b;
}

abbrev pub with_body : RawHandshake → Body → Message
with_body h b = dtls_record.Handshake (handshake_with h b)

abbrev pub view_message_in_place : DTLSHandshakeView → Message
view_message_in_place v = with_body (view_raw_handshake v.raw) (view_body_in_place v.body)

abbrev pub with_read_body : RawHandshake → Result Body Refusal → Result Message Refusal
with_read_body h (Ok b) = Ok (with_body h b)
with_read_body h (Err e) = Err e

-- The value of the message.
abbrev pub handshake_of : RawHandshake → Result Message Refusal
handshake_of h = with_read_body h (value_of (reading (body h.msg_type h.length (is_part h)) h.body))

-- A message, with the body of a handshake message unparsed.
pub data Raw : Type 0 where
  Handshake : RawHandshake → Raw
  Whole : Message → Raw

abbrev pub view_raw : DTLSRawMessage → Raw
view_raw (raw.Handshake h) = Handshake (view_raw_handshake h)
view_raw raw.ChangeCipherSpec = Whole dtls_record.ChangeCipherSpec
view_raw (raw.Alert a) = Whole (dtls_record.Alert (base_alert.view_alert a))

-- The value of the message.
abbrev pub message_of : Raw → Result Message Refusal
message_of (Handshake h) = handshake_of h
message_of (Whole m) = Ok m

-- The messages in the fragment of a record of this type.
abbrev pub messages_of_type : ℕ → Bytes → List Raw
messages_of_type content_type b =
    if content_type == 20 then map Whole (items_in dtls_record.change_cipher_spec b)
    else if content_type == 21 then map Whole (items_in dtls_record.alert b)
    else if content_type == 22 then map Handshake (items_in raw_handshake b)
    else []

-- The messages that a walk has yet to reach.
abbrev pub raw_messages : DTLSMessages → List Raw
raw_messages m = messages_of_type m.content_type.0 m.bytes.now

-- The value of a record in place: its messages are the decoded ones, up to the first that is
-- refused.
abbrev pub view_plaintext_in_place : DTLSPlaintextView → Plaintext
view_plaintext_in_place p = record {
  header = view_header p.header;
  messages = decode_while message_of (raw_messages p.messages);
}

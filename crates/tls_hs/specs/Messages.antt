-- The messages of a record in place.
use Rattle.std.specs.Prelude.{ℕ, List, [], ◌∷◌, map, Result, Ok, ◌==◌, if◌then◌else◌}
use Rattle.layouts.specs.Bytes.{Bytes}
use Rattle.layouts.specs.Meaning.{Refusal}
use Rattle.layouts.specs.Reading.{reading}
use Rattle.layouts.specs.Items.{items_in, list_read}
use Rattle.layouts.specs.Framed.{Framed}
use Rattle.tls_base.specs.Alert as alerts
use Rattle.tls_hs.specs.InPlace.{raw_handshake, view_raw_handshake, handshake_of}
use Rattle.tls_hs.specs.Message as message
use Rattle.tls_hs.specs.Message.{Message}
use Rattle.tls_hs.specs.declared.message_view.RawMessage.{RawMessage}
use Rattle.tls_hs.specs.declared.message_view.RawMessage.TheVariants as raw
use Rattle.tls_hs.specs.declared.message_view.Messages.{Messages}

-- A message, with the body of a handshake message unparsed.
pub data Raw : Type 0 where
  Handshake : Framed → Raw
  Whole : Message → Raw

abbrev pub view_raw : RawMessage → Raw
view_raw (raw.Handshake h) = Handshake (view_raw_handshake h)
view_raw raw.ChangeCipherSpec = Whole message.ChangeCipherSpec
view_raw (raw.Alert a) = Whole (message.Alert (alerts.view_alert a))
view_raw (raw.ApplicationData d) = Whole (message.ApplicationData d.now)
view_raw (raw.Heartbeat h) = Whole (message.Heartbeat (message.view_heartbeat h))

-- The value of the message.
abbrev pub message_of : Raw → Result Message Refusal
message_of (Handshake h) = handshake_of h
message_of (Whole m) = Ok m

abbrev pub change_cipher_specs : Bytes → List Raw
change_cipher_specs b = map Whole (items_in message.change_cipher_spec b)

-- The messages in the fragment of a record of this type and length, if the type isn't
-- change_cipher_spec.
abbrev pub messages_of_other_type : ℕ → ℕ → Bytes → List Raw
messages_of_other_type content_type length b =
    if content_type == 21 then map Whole (items_in message.alert b)
    else if content_type == 22 then map Handshake (items_in raw_handshake b)
    else if content_type == 23 then Whole (message.ApplicationData b) ∷ []
    else if content_type == 24 then map Whole (list_read (reading (message.heartbeat length) b))
    else []

-- The messages in the fragment of a record of this type and length.
abbrev pub messages_of_type : ℕ → ℕ → Bytes → List Raw
messages_of_type content_type length b =
    if content_type == 20 then
    change_cipher_specs b else messages_of_other_type content_type length b

-- The messages that a walk has yet to reach.
abbrev pub raw_messages : Messages → List Raw
raw_messages m = if m.is_change then
    change_cipher_specs m.bytes.now else messages_of_other_type m.record_type.0 m.len m.bytes.now

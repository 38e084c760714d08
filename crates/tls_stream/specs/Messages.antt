-- The messages in fragments.
use Rattle.std.specs.Prelude.{ℕ, cond, ◌==◌, slice_index}
use Rattle.layouts.specs.Bytes.{Bytes}
use Rattle.tls_stream.specs.Frames.{Kind, Shape, up_to}
use Rattle.tls_stream.specs.Records.{message_frame}
use Rattle.tls_stream.specs.Item.{Event, Handshake, Alert}

-- An alert has two bytes (RFC 5246, section 7.2).
abbrev pub alerts : Kind
alerts = record { header = 2; body_in = λ h. 0 }

-- The messages of a content type: alerts, or handshake messages with bodies of at most limit bytes.
abbrev pub messages_of : ℕ → ℕ → Shape
messages_of limit kind = cond (kind == 21) (up_to alerts 0) (message_frame limit)

abbrev pub event_of : ℕ → Bytes → Event
event_of kind y =
    cond (kind == 21) (Alert (record { level = slice_index y 0; description = slice_index y 1 }))
    (Handshake y)

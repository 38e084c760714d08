-- Messages of records.
use Rattle.std.specs.Prelude.{ℕ, List, [], ◌∷◌, nat_le, ◌==◌}
use Rattle.layouts.specs.Bytes.{Bytes}
use Rattle.layouts.specs.Layout.{Layout, done, number, block, window, ◌>>=◌, ◌>>◌, mapped, test, rest}
use Rattle.layouts.specs.declared.result.ErrorKind.TheVariants.{Verify}
use Rattle.tls_base.specs.Alert as alerts
use Rattle.tls_hs.specs.Handshake as handshakes
use Rattle.tls_hs.specs.declared.message.TlsMessage.{TlsMessage}
use Rattle.tls_hs.specs.declared.message.TlsMessage.TheVariants as tls_message
use Rattle.tls_hs.specs.declared.message.TlsMessageHeartbeat.{TlsMessageHeartbeat}

-- The value of a HeartbeatMessage (RFC 6520, section 4). Its padding isn't kept.
pub record HeartbeatMessage : Type 0 where
  pub heartbeat_type : ℕ
  pub payload_length : ℕ
  pub payload : Bytes

abbrev pub view_heartbeat : TlsMessageHeartbeat → HeartbeatMessage
view_heartbeat h =
    record {
      heartbeat_type = h.heartbeat_type.0;
      payload_length = h.payload_len;
      payload =
          h.payload.now;
    }

-- The value of a message, regardless of its place in memory.
pub data Message : Type 0 where
  Handshake : handshakes.Handshake → Message
  ChangeCipherSpec : Message
  Alert : alerts.Alert → Message
  ApplicationData : Bytes → Message
  Heartbeat : HeartbeatMessage → Message

abbrev pub view_message : TlsMessage → Message
view_message (tls_message.Handshake h) = Handshake (handshakes.view_handshake h)
view_message tls_message.ChangeCipherSpec = ChangeCipherSpec
view_message (tls_message.Alert a) = Alert (alerts.view_alert a)
view_message (tls_message.ApplicationData d) = ApplicationData d.blob.now
view_message (tls_message.Heartbeat h) = Heartbeat (view_heartbeat h)

-- A handshake message (RFC 5246, section 7.4): its HandshakeType, its length, and its body, which
-- is read within that length.
unfoldable pub handshake : Layout Message
handshake = do
  msg_type ← number 1
  n ← number 3
  body ← window n (handshakes.handshake_body msg_type n)
  done (Handshake body)

-- ChangeCipherSpec (RFC 5246, section 7.1): 1 byte, which is 1.
unfoldable pub change_cipher_spec : Layout Message
change_cipher_spec = do
  n ← number 1
  test (n == 1) Verify
  done ChangeCipherSpec

-- An alert (RFC 5246, section 7.2).
unfoldable pub alert : Layout Message
alert = mapped Alert alerts.alert

-- Application data (RFC 5246, section 10): all bytes.
unfoldable pub application_data : Layout Message
application_data = mapped ApplicationData rest

-- HeartbeatMessage (RFC 6520, section 4), in a record of this length, which must be at least 3: the
-- message's type and payload length. A record has one.
unfoldable pub heartbeat : ℕ → Layout (List Message)
heartbeat length = do
  heartbeat_type ← number 1
  n ← number 2
  test (nat_le 3 length) Verify
  payload ← block n
  done (Heartbeat
      (record { heartbeat_type = heartbeat_type; payload_length = n; payload = payload }) ∷ [])

-- The names that are printed.
use Rattle.std.specs.Prelude.{ℕ, List, codes}
use Rattle.tls_base.specs.Constants.{handshake_types}
use Rattle.tls_base.specs.Names.{name}
use Rattle.tls_hs.specs.Handshake as handshakes
use Rattle.tls_hs.specs.HandshakeText.{msg_type_of}
use Rattle.tls_hs.specs.Message as messages

-- a handshake message has the name of its HandshakeType, or of the draft that its ServerHello
-- belongs to
abbrev pub handshake_name : handshakes.Handshake → List ℕ
handshake_name (handshakes.ServerHelloV13Draft18 body) = codes "ServerHelloV13Draft18"
handshake_name m = name (codes "TlsHandshakeType") handshake_types (msg_type_of m)

abbrev pub message_name : messages.Message → List ℕ
message_name (messages.Handshake h) = handshake_name h
message_name messages.ChangeCipherSpec = codes "ChangeCipherSpec"
message_name (messages.Alert body) = codes "Alert"
message_name (messages.ApplicationData body) = codes "ApplicationData"
message_name (messages.Heartbeat body) = codes "Heartbeat"

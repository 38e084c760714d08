-- TLS in packets. Behind the dialogue of SQL Server each side sends its TLS in packets, until the
-- handshake is over ([MS-TDS], section 2.2.6.5).
use Rattle.std.specs.Prelude.{◌≡◌, Bool, true, false, if◌then◌else◌, Option, Some, None}
use Rattle.layouts.specs.Bytes.{Bytes}
use Rattle.connections.specs.declared.connection.Side.{Side}
use Rattle.connections.specs.declared.connection.Side.TheVariants.{Originator, Responder}
use Rattle.preambles.specs.TdsPayload.{reader_at, taken_from}
use Rattle.preambles.specs.declared.phase.Protocol.TheVariants as protocol
use Rattle.preambles.specs.declared.tds_payload.TdsReader.{TdsReader}
use Rattle.log_connections.specs.declared.dialogue.Dialogue.{Dialogue}
use Rattle.log_connections.specs.declared.dialogue.Dialogue.TheVariants as dialogue
use Rattle.log_connections.specs.declared.fronts.Preambles.{Preambles}

abbrev pub is_in_packets : Dialogue → Bool
is_in_packets (dialogue.Tls protocol.Tds) = true
is_in_packets d = false

abbrev pub packets_of : Side → Preambles → TdsReader
packets_of Originator f = f.packets_of_originator
packets_of Responder f = f.packets_of_responder

abbrev pub with_packets : Side → TdsReader → Preambles → Preambles
with_packets Originator r f = record f { packets_of_originator = r }
with_packets Responder r f = record f { packets_of_responder = r }

-- The TLS in what a side sent next.
abbrev pub tls_in : Side → Bytes → Preambles → Bytes
tls_in s b f =
    if is_in_packets f.dialogue then (taken_from (packets_of s f).position b).tls else b

-- The place in its packets behind that.
abbrev pub behind_tls : Side → Bytes → Preambles → Preambles
behind_tls s b f =
    if is_in_packets f.dialogue
    then with_packets s (reader_at (taken_from (packets_of s f).position b).position) f else f

-- The TLS that was taken out of packets, or else what was sent.
abbrev pub tls_of : Option Bytes → Bytes → Bytes
tls_of None sent = sent
tls_of (Some tls) sent = tls

abbrev pub TakesTls : Side → Bytes → Option Bytes → Preambles → Preambles → Type 0
TakesTls s sent taken f g = (tls_of taken sent ≡ tls_in s sent f) × (g ≡ behind_tls s sent f)

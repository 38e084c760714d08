use Rattle.std.proofs.Common.{rules}
use Rattle.tls_records.proofs.InPlaceLemmas.{
  judges_change_cipher_specs,
  judges_alerts,
  judges_handshakes,
  judges_heartbeat,
}
use Rattle.tls_records.proofs.plaintext_view.fragment_judged.Goals as goal

pub returns-in-ChangeCipherSpec : goal.returns-in-ChangeCipherSpec
returns-in-ChangeCipherSpec c =
    judges_change_cipher_specs c.args.hdr.now.record_type.0 c.args.hdr.now.version.0
    c.args.hdr.now.len c.args.i.now
    c.first_judged.result (search rules) c.first_judged.ensures

pub returns-in-Alert : goal.returns-in-Alert
returns-in-Alert c =
    judges_alerts c.args.hdr.now.record_type.0 c.args.hdr.now.version.0 c.args.hdr.now.len
    c.args.i.now
    c.first_judged-in-Alert.result (search rules) c.first_judged-in-Alert.ensures

pub returns-in-Handshake : goal.returns-in-Handshake
returns-in-Handshake c =
    judges_handshakes c.args.hdr.now.record_type.0 c.args.hdr.now.version.0 c.args.hdr.now.len
    c.args.i.now
    c.first_judged-in-Handshake.result (search rules) c.first_judged-in-Handshake.ensures

pub returns-in-Heartbeat : goal.returns-in-Heartbeat
returns-in-Heartbeat c =
    judges_heartbeat c.args.hdr.now.record_type.0 c.args.hdr.now.version.0 c.args.hdr.now.len
    c.args.i.now
    c.heartbeat_judged.result (search rules) c.heartbeat_judged.ensures

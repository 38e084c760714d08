use Rattle.std.proofs.Common.{rules}
use Rattle.dtls_records.specs.DtlsRecord.{view_header}
use Rattle.dtls_records.proofs.DtlsInPlaceLemmas.{judges_change_cipher_specs, judges_alerts, judges_handshakes}
use Rattle.dtls_records.proofs.record_view.fragment_judged.Goals as goal

pub returns-in-ChangeCipherSpec : goal.returns-in-ChangeCipherSpec
returns-in-ChangeCipherSpec c = judges_change_cipher_specs
    (view_header c.args.hdr.now) c.args.i.now c.first_judged.result (search rules)
    c.first_judged.ensures

pub returns-in-Alert : goal.returns-in-Alert
returns-in-Alert c =
    judges_alerts (view_header c.args.hdr.now) c.args.i.now c.first_judged-in-Alert.result
    (search rules) c.first_judged-in-Alert.ensures

pub returns-in-Handshake : goal.returns-in-Handshake
returns-in-Handshake c =
    judges_handshakes (view_header c.args.hdr.now) c.args.i.now c.first_judged-in-Handshake.result
    (search rules) c.first_judged-in-Handshake.ensures

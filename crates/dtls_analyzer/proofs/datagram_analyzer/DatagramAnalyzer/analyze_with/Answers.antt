use Rattle.std.proofs.Common.{◌≡◌, ◌-◌, ◌+◌, true, false, arith, length}
use Rattle.std.proofs.lemmas.Grind.{common_steps}
use Rattle.layouts.specs.Answers.{refusal_of}
use Rattle.raw_records.specs.RawDtlsRecord.{view_header, view_raw_record}
use Rattle.dtls_analyzer.specs.DatagramRecords.{is_known}
use Rattle.dtls_analyzer.specs.Datagrams.{received}
use Rattle.dtls_analyzer.proofs.ReceivedLemmas.{reading_ends, reading_fails, reading_next, reading_unknown}
use Rattle.dtls_analyzer.proofs.datagram_analyzer.DatagramAnalyzer.analyze_with.Goals as goal

pub records-preserved : goal.records-preserved
records-preserved g c k is =
    let known : is_known (view_header c.in-Ok.record.header) ≡ true = grind (arith, common_steps) in
    reading_next (received k c.args.side c.args.datagram.now)
    (length c.args.datagram.now - c.records.read)
    (length c.args.datagram.now - (c.records.read + 1)) c.args.side
    c.records.left.now c.in-Ok.rest.now (view_raw_record c.in-Ok.record) c.records.self
    c.read_record_events.new.self
    (omega arith) c.in-Ok.ensures.read known c.in_ok-read_record_events.ensures
    (c.records.invariant k is)

pub returns-in_default : goal.returns-in_default
returns-in_default g c k is =
    reading_fails (received k c.args.side c.args.datagram.now)
    (length c.args.datagram.now - c.records.read)
    (length c.args.datagram.now - (c.records.read + 1)) c.args.side
    c.records.left.now (refusal_of c.in_default.field-0) c.records.self c.see_sealed.new.self
    (omega arith) c.in_default.ensures.read c.see_sealed.ensures (c.records.invariant k is)

pub returns-then-not-is_known : goal.returns-then-not-is_known
returns-then-not-is_known g c k is =
    let unknown : is_known (view_header c.in-Ok.record.header) ≡ false =
    grind (arith, common_steps) in
    reading_unknown (received k c.args.side c.args.datagram.now)
    (length c.args.datagram.now - c.records.read)
    (length c.args.datagram.now - (c.records.read + 1)) c.args.side
    c.records.left.now c.in-Ok.rest.now (view_raw_record c.in-Ok.record) c.records.self
    c.see_sealed-then-not-is_known.new.self
    (omega arith) c.in-Ok.ensures.read unknown c.see_sealed-then-not-is_known.ensures
    (c.records.invariant k is)

pub returns : goal.returns
returns g c k is =
    reading_ends (received k c.args.side c.args.datagram.now)
    (length c.args.datagram.now - c.records.read) c.args.side
    c.records.left.now c.records.self (omega arith) (c.records.invariant k is)

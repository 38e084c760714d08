use Rattle.std.proofs.Common.{◌∷◌}
use Rattle.raw_records.specs.RawDtlsRecord.{view_raw_record}
use Rattle.dtls_analyzer.specs.Datagrams.{came_before, number_of}
use Rattle.dtls_analyzer.proofs.DatagramLemmas.{client_numbers, server_numbers}
use Rattle.dtls_analyzer.proofs.datagram_analyzer.DatagramAnalyzer.add_number.Goals as goal

pub returns-in-ToServer : goal.returns-in-ToServer
returns-in-ToServer c k is =
    client_numbers k c.args.self.now c.args.side
    (number_of (view_raw_record c.args.record.now)
    ∷ came_before k c.args.side (view_raw_record c.args.record.now)) c.insert.new.self
    c.in-ToServer.is
    (c.insert.ensures (came_before k c.args.side (view_raw_record c.args.record.now))
    (c.window_before-window.ensures k is)) is

pub returns-in-FromServer : goal.returns-in-FromServer
returns-in-FromServer c k is =
    server_numbers k c.args.self.now c.args.side
    (number_of (view_raw_record c.args.record.now)
    ∷ came_before k c.args.side (view_raw_record c.args.record.now)) c.insert.new.self
    c.in-FromServer.is
    (c.insert.ensures (came_before k c.args.side (view_raw_record c.args.record.now))
    (c.window_before-window.ensures k is)) is

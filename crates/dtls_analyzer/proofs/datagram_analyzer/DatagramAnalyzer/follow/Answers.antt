use Rattle.raw_records.specs.RawDtlsRecord.{view_raw_record}
use Rattle.dtls_analyzer.proofs.DatagramLemmas.{client_answers, server_answers}
use Rattle.dtls_analyzer.proofs.datagram_analyzer.DatagramAnalyzer.follow.Goals as goal

pub returns-in-ToServer : goal.returns-in-ToServer
returns-in-ToServer g c k is =
    client_answers k c.args.self.now c.args.side c.analyze.new.account c.analyze.new.self
    (view_raw_record c.args.record)
    c.analyze.result c.in-ToServer.is c.analyze.ensures.emitted c.analyze.ensures.same is

pub returns-in-FromServer : goal.returns-in-FromServer
returns-in-FromServer g c k is =
    server_answers k c.args.self.now c.args.side c.analyze-in-FromServer.new.account
    c.analyze-in-FromServer.new.self
    (view_raw_record c.args.record)
    c.analyze-in-FromServer.result c.in-FromServer.is c.analyze-in-FromServer.ensures.emitted
    c.analyze-in-FromServer.ensures.same
    is

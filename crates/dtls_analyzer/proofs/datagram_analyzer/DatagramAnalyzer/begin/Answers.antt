use Rattle.dtls_stream.specs.Fragments.{view_fragment}
use Rattle.dtls_analyzer.proofs.DatagramLemmas.{client_begins, server_begins}
use Rattle.dtls_analyzer.proofs.datagram_analyzer.DatagramAnalyzer.begin.Goals as goal

pub returns-in-ToServer : goal.returns-in-ToServer
returns-in-ToServer c k is =
    client_begins k c.args.self.now c.args.side (view_fragment c.args.fragment.now) c.begin.new.self
    c.in-ToServer.is
    c.begin.ensures is

pub returns-in-FromServer : goal.returns-in-FromServer
returns-in-FromServer c k is =
    server_begins k c.args.self.now c.args.side (view_fragment c.args.fragment.now)
    c.begin-in-FromServer.new.self
    c.in-FromServer.is c.begin-in-FromServer.ensures is

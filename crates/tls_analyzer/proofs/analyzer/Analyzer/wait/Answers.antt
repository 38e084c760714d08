use Rattle.tls_analyzer.proofs.FirstLemmas.{client_waits_on, server_waits_on}
use Rattle.tls_analyzer.proofs.analyzer.Analyzer.wait.Goals as goal

pub returns-in-ToServer : goal.returns-in-ToServer
returns-in-ToServer c =
    client_waits_on c.args.self.now c.args.side c.extend_from_slice.new.self c.args.bytes.now
    c.extend_from_slice.result
    c.in-ToServer.is
    c.extend_from_slice.ensures.items

pub returns-in-FromServer : goal.returns-in-FromServer
returns-in-FromServer c =
    server_waits_on c.args.self.now c.args.side c.extend_from_slice-in-FromServer.new.self
    c.args.bytes.now
    c.extend_from_slice-in-FromServer.result c.in-FromServer.is
    c.extend_from_slice-in-FromServer.ensures.items

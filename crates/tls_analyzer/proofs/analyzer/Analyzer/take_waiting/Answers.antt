use Rattle.std.proofs.Common.{rules, []}
use Rattle.tls_analyzer.proofs.FirstLemmas.{client_waits, server_waits}
use Rattle.tls_analyzer.proofs.analyzer.Analyzer.take_waiting.Goals as goal

pub returns-in-ToServer-clause-taken : goal.returns-in-ToServer-clause-taken
returns-in-ToServer-clause-taken c =
    client_waits c.args.self.now c.args.side c.replace.new.dest [] c.in-ToServer.is (search rules)

pub returns-in-FromServer-clause-taken : goal.returns-in-FromServer-clause-taken
returns-in-FromServer-clause-taken c =
    server_waits c.args.self.now c.args.side c.replace-in-FromServer.new.dest [] c.in-FromServer.is
    (search rules)

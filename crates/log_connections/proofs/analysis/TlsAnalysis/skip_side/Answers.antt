use Rattle.std.proofs.Common.{rules, refl, subst}
use Rattle.tls_analyzer.specs.Analyzers.{IsReadAsNone}
use Rattle.log_connections.proofs.FrontLemmas.{received_none}
use Rattle.log_connections.proofs.analysis.TlsAnalysis.skip_side.Goals as goal

pub returns : goal.returns
returns g c =
    received_none c.args.side c.args.stream.now c.stop.new.self c.args.self.now _ c.in-Stream.analyzer
    c.in-Stream.preambles c.skip_side.new.self c.clear.new.self (search rules) refl
    (subst (λ d. IsReadAsNone c.in-Stream.analyzer d c.skip_side.new.self)
    c.direction-direction.ensures
    c.skip_side.ensures)
    (search rules) (search rules)

use Rattle.std.proofs.Common.{refl}
use Rattle.std.proofs.lemmas.Result.{IfOk-weaker}
use Rattle.log_connections.proofs.exchanges.analyze_from.Goals as goal

pub returns-clause-prepared : goal.returns-clause-prepared
returns-clause-prepared g c =
    rw (← c.side_of-side.ensures)
    (IfOk-weaker c.analyze_datagram.result _ _
    (λ _ analysis. (c.prepare.new.self, c.in_ok-prepare.ensures.prepared, analysis, refl))
    c.analyze_datagram.ensures)

pub returns-clause-analysis : goal.returns-clause-analysis
returns-clause-analysis g c =
    rw (← c.side_of-side.ensures)
    (IfOk-weaker c.analyze_datagram.result _ _
    (λ _ analysis. (
      c.prepare.new.self,
      (c.args.tunnels.now, c.args.kept, c.in_ok-prepare.ensures.prepared),
      analysis,
      refl,
    ))
    c.analyze_datagram.ensures)

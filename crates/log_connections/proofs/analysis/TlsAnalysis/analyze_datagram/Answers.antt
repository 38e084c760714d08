use Rattle.std.proofs.lemmas.Result.{IfOk-weaker}
use Rattle.log_connections.proofs.analysis.TlsAnalysis.analyze_datagram.Goals as goal

pub returns : goal.returns
returns g c =
    rw (← c.held_datagram-datagram.ensures)
    (IfOk-weaker c.analyze_held.result _ _
    (λ _ held. record { seen = c.see_hello.new.self; sees = c.see_hello.ensures; analyzes = held })
    c.analyze_held.ensures)

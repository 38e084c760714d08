use Rattle.std.proofs.Common.{refl, sym, ◌∙◌, ◌≡◌}
use Rattle.std.proofs.lemmas.Result.{IfOk-weaker}
use Rattle.connections.specs.Connection.{side_of}
use Rattle.connections.specs.declared.connection.Side.TheVariants.{Originator, Responder}
use Rattle.log_connections.proofs.log.analyze_sender.Goals as goal

pub returns-in-Originator-clause-analysis : goal.returns-in-Originator-clause-analysis
returns-in-Originator-clause-analysis g c =
    let is : Originator ≡ side_of c.args.connection.now c.args.segment.now.source =
    sym c.in-Originator.is ∙ c.side_of-side.ensures in
    rw (← is, ← c.has_opening-is_opened.ensures)
    (IfOk-weaker c.analyze_side.result _ _
    (λ _ analysis. (c.prepare.new.self, c.in_ok-prepare.ensures.prepared, analysis, refl))
    (rw c.in-Originator.is at c.analyze_side.ensures))

pub returns-in-Responder-clause-analysis : goal.returns-in-Responder-clause-analysis
returns-in-Responder-clause-analysis g c =
    let is : Responder ≡ side_of c.args.connection.now c.args.segment.now.source =
    sym c.in-Responder.is ∙ c.side_of-side.ensures in
    rw (← is, ← c.has_opening-is_opened.ensures)
    (IfOk-weaker c.analyze_side-in-Responder.result _ _
    (λ _ analysis. (c.prepare.new.self, c.in_ok-prepare.ensures.prepared, analysis, refl))
    (rw c.in-Responder.is at c.analyze_side-in-Responder.ensures))

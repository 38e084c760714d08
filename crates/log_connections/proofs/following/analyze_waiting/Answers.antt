use Rattle.std.proofs.Common.{refl}
use Rattle.std.proofs.lemmas.Result.{IfOk-weaker}
use Rattle.log_connections.proofs.following.analyze_waiting.Goals as goal

pub returns-in-Originator-clause-dialogue : goal.returns-in-Originator-clause-dialogue
returns-in-Originator-clause-dialogue g c =
    rw (c.in-Originator.is, ← c.has_opening-is_opened.ensures)
    (IfOk-weaker c.analyze_stream.result _ _ (λ _ analysis. (analysis, refl))
    c.analyze_stream.ensures.analysis)

pub returns-in-Responder-clause-dialogue : goal.returns-in-Responder-clause-dialogue
returns-in-Responder-clause-dialogue g c =
    rw (c.in-Responder.is, ← c.has_opening-is_opened.ensures)
    (IfOk-weaker c.analyze_stream-in-Responder.result _ _ (λ _ analysis. (analysis, refl))
    c.analyze_stream-in-Responder.ensures.analysis)

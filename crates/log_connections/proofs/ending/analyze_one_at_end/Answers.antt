use Rattle.std.proofs.Common.{ap, ◌∙◌, sym, subst, Some}
use Rattle.connections.proofs.TableLemmas.{on_err}
use Rattle.log_connections.specs.AtEnd.{RefusesKept, had, none, taken}
use Rattle.log_connections.specs.Sides.{AnalyzesKept, IsOnItsOwn}
use Rattle.log_connections.proofs.ending.analyze_one_at_end.Goals as goal

pub returns-in_err-analyze_taken-in-Some-Taken-clause-refused :
    goal.returns-in_err-analyze_taken-in-Some-Taken-clause-refused
returns-in_err-analyze_taken-in-Some-Taken-clause-refused g c =
    on_err c.from_residual.result (
      c.in-Some-Taken.kept,
      sym c.take_at_end.ensures.outcome ∙ c.in-Some-Taken.is ∙ ap Some c.in-Some-Taken.field-0-is,
      subst (λ x. RefusesKept c.in-Some-Taken.kept x c.analyze_taken.new.connection)
          c.take_at_end.ensures.left c.in_err-analyze_taken-in-Some-Taken.ensures.refused,
    )

pub returns-in_ok-analyze_taken-in-Some-Taken-clause-analysis :
    goal.returns-in_ok-analyze_taken-in-Some-Taken-clause-analysis
returns-in_ok-analyze_taken-in-Some-Taken-clause-analysis g c =
    taken c.in-Some-Taken.kept
    (sym c.take_at_end.ensures.outcome ∙ c.in-Some-Taken.is ∙ ap Some c.in-Some-Taken.field-0-is)
    (subst (λ x. AnalyzesKept IsOnItsOwn c.in-Some-Taken.kept x c.analyze_taken.new.connection)
    c.take_at_end.ensures.left c.in_ok-analyze_taken-in-Some-Taken.ensures.analysis)

pub returns-in-Some-Had-clause-analysis : goal.returns-in-Some-Had-clause-analysis
returns-in-Some-Had-clause-analysis g c =
    had (sym c.take_at_end.ensures.outcome ∙ c.in-Some-Had.is ∙ ap Some c.in-Some-Had.field-0-is)
    c.take_at_end.ensures.left

pub returns-in-None-clause-analysis : goal.returns-in-None-clause-analysis
returns-in-None-clause-analysis g c =
    none (sym c.take_at_end.ensures.outcome ∙ c.in-None.is) c.take_at_end.ensures.left

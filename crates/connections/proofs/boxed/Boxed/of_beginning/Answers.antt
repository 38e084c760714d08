use Rattle.std.proofs.Common.{None, Some, refl, subst, sym, ◌∙◌}
use Rattle.connections.specs.Connection.{Accepts}
use Rattle.connections.proofs.ConnectionLemmas.{began}
use Rattle.connections.proofs.boxed.Boxed.of_beginning.Goals as goal

pub returns-in-None-clause-begun : goal.returns-in-None-clause-begun
returns-in-None-clause-begun g c =
    began c.args.beginning.now c.of_segment.result c.accept.new.self c.accept.new.self
    c.of_segment.ensures.begun
    (subst (λ x. Accepts c.args.beginning.now.first x c.accept.new.self)
    (c.get_mut.ensures.value ∙ c.in_ok-connection.ensures) c.in_ok-accept.ensures.taken)
    None (sym c.in-None.is) refl

pub returns-in_ok-accept-in-Some-clause-begun : goal.returns-in_ok-accept-in-Some-clause-begun
returns-in_ok-accept-in-Some-clause-begun g c =
    began c.args.beginning.now c.of_segment.result c.accept.new.self c.accept-in-Some.new.self
    c.of_segment.ensures.begun
    (subst (λ x. Accepts c.args.beginning.now.first x c.accept.new.self)
    (c.get_mut.ensures.value ∙ c.in_ok-connection.ensures) c.in_ok-accept.ensures.taken)
    (Some c.in-Some.answer) (sym c.in-Some.is)
    (subst (λ x. Accepts c.in-Some.answer x c.accept-in-Some.new.self)
    c.get_mut-in-Some.ensures.value c.in_ok-accept-in-Some.ensures.taken)

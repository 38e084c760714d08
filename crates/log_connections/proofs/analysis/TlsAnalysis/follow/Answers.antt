use Rattle.std.proofs.Common.{rules, refl, subst}
use Rattle.connections.specs.Stream.{next_bytes}
use Rattle.log_connections.proofs.FollowLemmas.{followed_none, followed_once}
use Rattle.log_connections.specs.Fronts.{IsFollowedBy}
use Rattle.log_connections.proofs.analysis.TlsAnalysis.follow.Goals as goal

pub returns-in_default : goal.returns-in_default
returns-in_default g c =
    followed_none c.args.originator.now c.args.responder.now c.args.self.now c.in_default.field-0
    (search rules)

pub returns : goal.returns
returns g c =
    followed_once c.args.originator.now c.take.new.self c.args.responder.now c.take-2.new.self
    c.args.self.now _ c.in-Stream.field-0 c.in-Stream.preambles c.follow-client.new.self
    c.follow-client.result (search rules) refl
    (subst
    (λ y. IsFollowedBy (next_bytes c.args.originator.now c.args.originator.now.reading) y
    c.in-Stream.preambles c.follow-client.new.self c.follow-client.result)
    c.available-2.ensures
    (subst
    (λ x. IsFollowedBy x c.available-2.result.now c.in-Stream.preambles c.follow-client.new.self
    c.follow-client.result)
    c.available.ensures c.follow-client.ensures))
    c.take.ensures c.take-2.ensures

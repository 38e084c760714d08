use Rattle.std.proofs.Common.{subst}
use Rattle.dtls_stream.specs.contracts.fragments.Fragments.{the_view}
use Rattle.dtls_stream.specs.Fragments.{IsBody}
use Rattle.dtls_stream.proofs.HeldLemmas.{complete_body}
use Rattle.dtls_stream.proofs.fragments.Fragments.body.Goals as goal

pub returns-clause-body : goal.returns-clause-body
returns-clause-body c =
    let front = c.available-front.result.now in
    subst (λ h. IsBody h front) c.self.view_is
    (complete_body (the_view c.self.inside) front c.available-front.ensures c.self.invariant.1
    c.if-front-self.false)

use Rattle.tls_hs.specs.ServerHello.{view_server_hello}
use Rattle.tls_places.proofs.HelloLemmas.{Parts, parts}
use Rattle.tls_places.proofs.server_hello.server_hello_with_places.Goals as goal

pub returns-clause-places : goal.returns-clause-places
returns-clause-places c =
    let p : Parts c.args.i.now (view_server_hello c.in_ok-rest.hello) c.in_ok-rest.rest.now =
    parts c.args.i.now c.in_ok-rest.rest.now (view_server_hello c.in_ok-rest.hello)
    c.in_ok-rest.ensures.allowed in
    c.places_in-places.ensures
    (record { random = p.front.random; session_id = p.front.id; extensions = p.extensions })

use Rattle.std.proofs.Common.{refl, sym, subst}
use Rattle.layouts.specs.Reading.{reading}
use Rattle.layouts.proofs.PlaceLemmas.{ends_here, ends_read}
use Rattle.tls_hs.specs.ServerHello.{server_hello_any, view_server_hello}
use Rattle.wispuddera_c.specs.Hello.{ShowsServerHello}
use Rattle.wispuddera_c.specs.Status.{IsAnswered}
use Rattle.wispuddera_c.proofs.StatusLemmas.{answered}
use Rattle.wispuddera_c.proofs.server_hello.wispuddera_read_dtls_server_hello.Goals as goal

pub returns-in-Ok : goal.returns-in-Ok
returns-in-Ok c =
    let b = c.args.bytes.now in
    let v = view_server_hello c.in-Ok.hello in
    subst (λ m. IsAnswered (ShowsServerHello b c.in_numbers.result)
    (reading server_hello_any b) 0 m)
    (sym c.in_numbers.ensures.missing)
    (answered server_hello_any (ShowsServerHello b c.in_numbers.result) b b c.in-Ok.rest.now v refl
    c.in-Ok.ensures.gives.read
    (c.in_numbers.ensures.shows c.in-Ok.ensures.places
    (ends_read server_hello_any b b v c.in-Ok.rest.now (ends_here b)
    c.in-Ok.ensures.gives.allowed)))

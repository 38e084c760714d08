use Rattle.std.proofs.Common.{refl, sym, subst}
use Rattle.layouts.specs.Reading.{reading}
use Rattle.layouts.proofs.PlaceLemmas.{ends_here, ends_read}
use Rattle.x509.specs.Certificate.{certificate, view_certificate}
use Rattle.wispuddera_c.specs.Certificate.{ShowsX509}
use Rattle.wispuddera_c.specs.Status.{IsAnswered}
use Rattle.wispuddera_c.proofs.StatusLemmas.{answered}
use Rattle.wispuddera_c.proofs.certificate.wispuddera_read_x509.Goals as goal

pub returns-in-Ok : goal.returns-in-Ok
returns-in-Ok c =
    let b = c.args.bytes.now in
    let v = view_certificate c.in-Ok.certificate in
    subst (λ m. IsAnswered (ShowsX509 b c.in_numbers.result) (reading certificate b) 0 m)
    (sym c.in_numbers.ensures.missing)
    (answered certificate (ShowsX509 b c.in_numbers.result) b b c.in-Ok.rest.now v refl
    c.in-Ok.ensures.gives.read
    (c.in_numbers.ensures.shows c.in-Ok.ensures.places
    (ends_read certificate b b v c.in-Ok.rest.now (ends_here b) c.in-Ok.ensures.gives.allowed)))

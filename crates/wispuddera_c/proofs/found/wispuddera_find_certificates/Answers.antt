use Rattle.std.proofs.Common.{subst, sym}
use Rattle.layouts.specs.Layout.{counted}
use Rattle.layouts.proofs.PlaceLemmas.{ends_here}
use Rattle.tls_hs.specs.Certificate.{certificate}
use Rattle.tls_places.specs.Place.{Stands}
use Rattle.wispuddera_c.proofs.FoundLemmas.{list_found}
use Rattle.wispuddera_c.proofs.found.wispuddera_find_certificates.Goals as goal

pub returns-in-Ok : goal.returns-in-Ok
unfolding certificate
returns-in-Ok c =
    list_found 3 (counted 3) c.args.bytes.now c.in-Ok.field-0-1-0.bytes.now c.in-Ok.field-0-0.now
    c.in_c.result
    c.in-Ok.ensures.gives.read
    (subst (λ p. Stands c.args.bytes.now p c.in-Ok.field-0-1-0.bytes.now) (sym c.in_c.ensures)
    (c.in-Ok.ensures.stands (ends_here c.args.bytes.now)))

use Rattle.std.proofs.Common.{refl}
use Rattle.layouts.specs.Items.{items_in}
use Rattle.x509.specs.GeneralName.{general_name, general_names}
use Rattle.wispuddera_c.specs.Place.{ItemsStandAt}
use Rattle.wispuddera_c.proofs.CertificateLemmas.{items_in_c}
use Rattle.wispuddera_c.proofs.StatusLemmas.{answered}
use Rattle.wispuddera_c.proofs.certificate.wispuddera_find_x509_names.Goals as goal

pub returns-in-Ok : goal.returns-in-Ok
returns-in-Ok c =
    let b = c.args.bytes.now in
    let x = c.in-Ok.field-0-1-0.bytes.now in
    answered general_names (λ v _. ItemsStandAt general_name b c.in_c.result v) b b
    c.in-Ok.field-0-0.now
    (items_in general_name x) refl c.in-Ok.ensures.gives.read
    (items_in_c general_name b x c.in_c.result c.in-Ok.place c.in_c.ensures c.in-Ok.ensures.places)

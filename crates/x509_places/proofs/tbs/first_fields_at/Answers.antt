use Rattle.std.proofs.Common.{◌-◌, length, take}
use Rattle.layouts.specs.Meaning.{EndsWith}
use Rattle.layouts.proofs.PlaceLemmas.{ends_read}
use Rattle.der.specs.Element.{optional}
use Rattle.x509.specs.Certificate.{version}
use Rattle.x509_places.proofs.tbs.first_fields_at.Goals as goal

pub returns-clause-places : goal.returns-clause-places
returns-clause-places c = λ at.
    let w = take (length c.args.whole.now - c.args.behind) c.args.whole.now in
    let after : EndsWith w c.in_ok-after_version.after_version.now =
    ends_read (optional 0xa0 version) w c.args.i.now _ c.in_ok-after_version.after_version.now at
    c.in_ok-after_version.ensures.allowed in
    c.in_ok-after_serial.ensures.places after

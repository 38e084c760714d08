use Rattle.std.proofs.Common.{◌-◌, length, take}
use Rattle.layouts.specs.Meaning.{EndsWith}
use Rattle.layouts.proofs.PlaceLemmas.{ends_read}
use Rattle.x509.specs.Certificate.{validity}
use Rattle.x509.specs.Name.{name}
use Rattle.x509_places.proofs.tbs.name_fields_at.Goals as goal

pub returns-clause-places : goal.returns-clause-places
returns-clause-places c = λ at.
    let w = take (length c.args.whole.now - c.args.behind) c.args.whole.now in
    let first : EndsWith w c.in_ok-after_issuer.after_issuer.now =
    ends_read name w c.args.i.now _ c.in_ok-after_issuer.after_issuer.now at
    c.in_ok-after_issuer.ensures.gives.allowed in
    let second : EndsWith w c.in_ok-after_validity.after_validity.now =
    ends_read validity w c.in_ok-after_issuer.after_issuer.now _
    c.in_ok-after_validity.after_validity.now first c.in_ok-after_validity.ensures.allowed in
    let third : EndsWith w c.in_ok-after_subject.after_subject.now =
    ends_read name w c.in_ok-after_validity.after_validity.now _
    c.in_ok-after_subject.after_subject.now second c.in_ok-after_subject.ensures.gives.allowed in
    record {
      issuer = c.in_ok-after_issuer.ensures.places at;
      subject = c.in_ok-after_subject.ensures.places second;
      key = c.in_ok-rest.ensures.places third;
    }

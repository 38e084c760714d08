use Rattle.std.proofs.Common.{◌-◌, length, take}
use Rattle.layouts.specs.Meaning.{EndsWith}
use Rattle.layouts.proofs.PlaceLemmas.{ends_read}
use Rattle.x509.specs.Certificate.{first_fields, name_fields}
use Rattle.x509_places.specs.Fields.{NamesStand}
use Rattle.x509_places.proofs.tbs.TBSCertificateAtPart.read_at.Goals as goal

pub returns-clause-places : goal.returns-clause-places
returns-clause-places c = λ at.
    let w = take (length c.args.whole.now - c.args.behind) c.args.whole.now in
    let first : EndsWith w c.in_ok-after_first.after_first.now =
    ends_read first_fields w c.args.i.now _ c.in_ok-after_first.after_first.now at
    c.in_ok-after_first.ensures.gives.allowed in
    let second : EndsWith w c.in_ok-after_names.after_names.now =
    ends_read name_fields w c.in_ok-after_first.after_first.now _
    c.in_ok-after_names.after_names.now first c.in_ok-after_names.ensures.gives.allowed in
    let names : NamesStand c.args.whole.now c.in_ok-after_names.names =
    c.in_ok-after_names.ensures.places first in
    record {
      serial_number = c.in_ok-after_first.ensures.places at;
      issuer = names.issuer;
      subject = names.subject;
      key = names.key;
      extensions = c.in_ok-rest.ensures.places second;
    }

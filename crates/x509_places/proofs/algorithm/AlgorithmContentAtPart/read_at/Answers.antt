use Rattle.std.proofs.Common.{◌-◌, length, take}
use Rattle.layouts.specs.Meaning.{EndsWith}
use Rattle.layouts.proofs.PlaceLemmas.{ends_read}
use Rattle.der.specs.Element.{tagged}
use Rattle.der.specs.ObjectIdentifier.{object_identifier_content}
use Rattle.x509_places.proofs.algorithm.AlgorithmContentAtPart.read_at.Goals as goal

pub returns-clause-places : goal.returns-clause-places
returns-clause-places c = λ at.
    let w = take (length c.args.whole.now - c.args.behind) c.args.whole.now in
    let after : EndsWith w c.in_ok-after.after.now =
    ends_read (tagged 6 object_identifier_content) w c.args.i.now _ c.in_ok-after.after.now at
    c.in_ok-after.ensures.gives.allowed in
    record {
      algorithm = c.in_ok-after.ensures.places at;
      parameters =
          c.in_ok-rest.ensures.places after;
    }

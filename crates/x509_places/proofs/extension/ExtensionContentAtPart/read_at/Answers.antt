use Rattle.std.proofs.Common.{◌-◌, length, take}
use Rattle.layouts.specs.Meaning.{EndsWith}
use Rattle.layouts.proofs.PlaceLemmas.{ends_read}
use Rattle.der.specs.Element.{tagged}
use Rattle.der.specs.ObjectIdentifier.{object_identifier_content}
use Rattle.der.specs.Values.{default_false}
use Rattle.x509_places.proofs.extension.ExtensionContentAtPart.read_at.Goals as goal

pub returns-clause-places : goal.returns-clause-places
returns-clause-places c = λ at.
    let w = take (length c.args.whole.now - c.args.behind) c.args.whole.now in
    let first : EndsWith w c.in_ok-after_id.after_id.now =
    ends_read (tagged 6 object_identifier_content) w c.args.i.now _ c.in_ok-after_id.after_id.now at
    c.in_ok-after_id.ensures.gives.allowed in
    let second : EndsWith w c.in_ok-after_critical.after_critical.now =
    ends_read default_false w c.in_ok-after_id.after_id.now _
    c.in_ok-after_critical.after_critical.now first c.in_ok-after_critical.ensures.allowed in
    record {
      extn_id = c.in_ok-after_id.ensures.places at;
      extn_value =
          c.in_ok-rest.ensures.places second;
    }

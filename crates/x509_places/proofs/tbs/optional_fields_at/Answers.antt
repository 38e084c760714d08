use Rattle.std.proofs.Common.{◌-◌, length, take}
use Rattle.layouts.specs.Meaning.{EndsWith}
use Rattle.layouts.proofs.PlaceLemmas.{ends_read}
use Rattle.der.specs.Element.{optional}
use Rattle.der.specs.Values.{bit_string}
use Rattle.x509_places.proofs.tbs.optional_fields_at.Goals as goal

pub returns-clause-places : goal.returns-clause-places
returns-clause-places c = λ at.
    let w = take (length c.args.whole.now - c.args.behind) c.args.whole.now in
    let first : EndsWith w c.in_ok-after_issuer.after_issuer.now =
    ends_read (optional 0x81 bit_string) w c.args.i.now _ c.in_ok-after_issuer.after_issuer.now at
    c.in_ok-after_issuer.ensures.allowed in
    let second : EndsWith w c.in_ok-after_subject.after_subject.now =
    ends_read (optional 0x82 bit_string) w c.in_ok-after_issuer.after_issuer.now _
    c.in_ok-after_subject.after_subject.now first c.in_ok-after_subject.ensures.allowed in
    c.held_or_none-found.ensures.places c.args.whole.now (c.in_ok-rest.ensures.places second)

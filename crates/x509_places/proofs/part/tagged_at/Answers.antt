use Rattle.std.proofs.Common.{◌-◌, length, take}
use Rattle.layouts.specs.Layout.{number}
use Rattle.layouts.specs.Meaning.{EndsWith}
use Rattle.layouts.proofs.PlaceLemmas.{ends_read}
use Rattle.der.specs.Element.{der_length}
use Rattle.x509_places.proofs.PlaceLemmas.{content_before}
use Rattle.x509_places.proofs.part.tagged_at.Goals as goal

pub returns-clause-places : goal.returns-clause-places
returns-clause-places g c = λ at.
    let w = take (length c.args.whole.now - c.args.behind) c.args.whole.now in
    let first : EndsWith w c.in_ok-after_tag.after_tag.now =
    ends_read (number 1) w c.args.i.now _ c.in_ok-after_tag.after_tag.now at
    c.in_ok-after_tag.ensures.allowed in
    let second : EndsWith w c.in_ok-after_length.after_length.now =
    ends_read der_length w c.in_ok-after_tag.after_tag.now _
    c.in_ok-after_length.after_length.now first
    c.in_ok-after_length.ensures.allowed in
    c.in_ok-x.ensures.places (c.behind_part-inside.ensures c.in_ok-rest.content.now
    (content_before c.in_ok-after_length.n w c.in_ok-after_length.after_length.now
    c.in_ok-rest.content.now
    c.in_ok-rest.rest.now second c.in_ok-rest.ensures.allowed))

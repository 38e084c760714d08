use Rattle.std.proofs.Common.{refl, subst}
use Rattle.layouts.specs.Reading.{reading}
use Rattle.tls_ext.specs.Content as content
use Rattle.tls_ext.specs.InPlace.{first_name, in_content, picked, host_name}
use Rattle.tls_places.specs.Place.{IsWithin}
use Rattle.tls_places.proofs.FindLemmas.{part_found, lies_there, found_there}
use Rattle.tls_places.proofs.find.host_name_place.Goals as goal

pub returns-in-Some-clause-finds : goal.returns-in-Some-clause-finds
returns-in-Some-clause-finds c =
    c.outward.ensures.finds (host_name c.args.block.now)
    (lies_there c.args.block.now c.in-Some.outer c.in_ok-outer.field-0 c.in-Some.is
    c.in_ok-outer.ensures.within)
    (subst (λ x. IsWithin x c.first_name_place.result) c.bytes_at.ensures
    c.first_name_place.ensures.within)
    (part_found c.args.block.now c.bytes_at.result.now c.in-Some.outer
    (λ x. picked first_name (reading content.server_names x))
    (in_content content.server_names first_name) _ c.first_name_place.result (λ y. refl)
    c.bytes_at.ensures
    (found_there c.args.block.now c.in-Some.outer c.in_ok-outer.field-0 _ c.in-Some.is
    c.in_ok-outer.ensures.finds) c.first_name_place.ensures.finds)

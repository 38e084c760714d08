use Rattle.std.proofs.Common.{refl, subst}
use Rattle.layouts.specs.Reading.{reading}
use Rattle.tls_hs.specs.Hello.{client_hello}
use Rattle.tls_records.specs.InPlace.{body_of_type, name_in_body, name_in_hello}
use Rattle.tls_places.specs.Place.{IsWithin}
use Rattle.tls_places.proofs.FindLemmas.{part_found, lies_there, found_there}
use Rattle.tls_places.proofs.host_name.host_name_place_of_fragment.Goals as goal

pub returns-in-Some-clause-finds : goal.returns-in-Some-clause-finds
returns-in-Some-clause-finds c =
    c.outward.ensures.finds (name_in_body (body_of_type 1 c.args.fragment.now))
    (lies_there c.args.fragment.now c.in-Some.outer c.in_ok-outer.field-0 c.in-Some.is
    c.in_ok-outer.ensures.within)
    (subst (λ x. IsWithin x c.host_name_place_of_hello.result) c.bytes_at.ensures
    c.host_name_place_of_hello.ensures.within)
    (part_found c.args.fragment.now c.bytes_at.result.now c.in-Some.outer
    (λ x. name_in_hello (reading client_hello x)) name_in_body _ c.host_name_place_of_hello.result
    (λ y. refl)
    c.bytes_at.ensures
    (found_there c.args.fragment.now c.in-Some.outer c.in_ok-outer.field-0 _ c.in-Some.is
    c.in_ok-outer.ensures.finds) c.host_name_place_of_hello.ensures.finds)

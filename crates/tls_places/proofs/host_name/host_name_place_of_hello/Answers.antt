use Rattle.std.proofs.Common.{Some, subst, sym}
use Rattle.std.specs.Option.{option_map}
use Rattle.layouts.specs.Place.{bytes_at}
use Rattle.layouts.specs.Reading.{reading}
use Rattle.tls_hs.specs.Hello.{client_hello}
use Rattle.tls_hs.specs.InPlace.{view_client_hello_in_place}
use Rattle.tls_records.specs.InPlace.{name_in_hello}
use Rattle.tls_places.specs.Place.{IsWithin, Lies, MayStand}
use Rattle.tls_places.proofs.HostNameLemmas.{stands_held, name_found, none_found}
use Rattle.tls_places.proofs.host_name.host_name_place_of_hello.Goals as goal

stand : (c : goal.After-outward) → MayStand c.args.body.now (Some c.in-Some.outer)
    (option_map (λ x. x.now) c.in_ok-rest.hello.ext)
stand c = subst (λ p. MayStand c.args.body.now p (option_map (λ x. x.now) c.in_ok-rest.hello.ext))
    c.in-Some.is
    c.in_ok-rest.ensures.within.extensions

lies : (c : goal.After-outward) → Lies c.args.body.now c.in-Some.outer
lies c = (stands_held c.args.body.now c.in-Some.outer
    (option_map (λ x. x.now) c.in_ok-rest.hello.ext) (stand c)).within

found : (c : goal.After-outward)
    → IsWithin (bytes_at c.args.body.now c.in-Some.outer) c.host_name_place.result
found c = subst (λ x. IsWithin x c.host_name_place.result) c.bytes_at.ensures
    c.host_name_place.ensures.within

pub returns-in-Some-clause-finds : goal.returns-in-Some-clause-finds
returns-in-Some-clause-finds c =
    c.outward.ensures.finds (name_in_hello (reading client_hello c.args.body.now))
    (lies c) (found c)
    (name_found c.args.body.now c.in_ok-rest.rest.now
    (view_client_hello_in_place c.in_ok-rest.hello) c.in_ok-rest.ensures.gives.read c.in-Some.outer
    c.bytes_at.result.now
    c.host_name_place.result (stand c)
    c.bytes_at.ensures c.host_name_place.ensures.finds)

pub returns-in-Some-clause-within : goal.returns-in-Some-clause-within
returns-in-Some-clause-within c = c.outward.ensures.within (lies c) (found c)

pub returns-in-None-clause-finds : goal.returns-in-None-clause-finds
returns-in-None-clause-finds c =
    none_found c.args.body.now c.in_ok-rest.rest.now
    (view_client_hello_in_place c.in_ok-rest.hello) c.in_ok-rest.ensures.gives.read
    (subst (λ p. MayStand c.args.body.now p (option_map (λ x. x.now) c.in_ok-rest.hello.ext))
    c.in-None.is
    c.in_ok-rest.ensures.within.extensions)

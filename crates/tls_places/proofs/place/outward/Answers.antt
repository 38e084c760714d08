use Rattle.std.proofs.Common.{◌≡◌, ◌∙◌, ap, Ok, Some}
use Rattle.tls_places.specs.Place.{Found}
use Rattle.tls_places.proofs.OutwardLemmas.{some_found, some_within}
use Rattle.tls_places.proofs.place.outward.Goals as goal

found_is : (c : goal.After-place_within) → ◌≡◌ {A = Found} c.args.found (Ok (Some c.in-Some.inner))
found_is c = c.in_ok-inner.was ∙ ap Ok c.in-Some.is

pub returns-in-Some-clause-finds : goal.returns-in-Some-clause-finds
returns-in-Some-clause-finds c = λ a out here t.
    some_found c.args.whole.now c.args.outer c.in-Some.inner c.place_within.result
    c.place_within.ensures c.args.found
    (found_is c) a out here t

pub returns-in-Some-clause-within : goal.returns-in-Some-clause-within
returns-in-Some-clause-within c = λ out here.
    some_within c.args.whole.now c.args.outer c.in-Some.inner c.place_within.result
    c.place_within.ensures c.args.found
    (found_is c) out here

use Rattle.der.specs.Values.{view_bit_string}
use Rattle.x509_places.proofs.LastLemmas.{bit_string_before}
use Rattle.x509_places.proofs.value.BitStringAtPart.read_at.Goals as goal

pub returns-clause-places : goal.returns-clause-places
returns-clause-places c = λ at.
    c.place_before-place.ensures
    (bit_string_before _ c.args.i.now (view_bit_string c.in_ok-rest.x) c.in_ok-rest.rest.now at
    c.in_ok-rest.ensures.allowed)

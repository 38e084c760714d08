use Rattle.std.proofs.Common.{length, sym, subst}
use Rattle.tls_places.specs.Place.{Stands}
use Rattle.wispuddera_c.proofs.StreamLemmas.{rest_stands}
use Rattle.wispuddera_c.proofs.stream.place_of_rest.Goals as goal

pub returns : goal.returns
returns c = λ outer ends.
    subst (λ p. Stands c.args.buffer.now p c.args.rest.now) (sym c.in_c.ensures)
    (c.place_within.ensures c.args.bytes.now c.args.rest.now outer
    (subst (λ n. Stands c.args.bytes.now (record { offset = n; length = length c.args.rest.now })
    c.args.rest.now)
    (sym c.saturating_sub.ensures) (rest_stands c.args.bytes.now c.args.rest.now ends)))

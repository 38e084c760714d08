use Rattle.std.proofs.Common.{refl, sym, subst}
use Rattle.layouts.proofs.PlaceLemmas.{ends_here}
use Rattle.tls_hs.specs.InPlace.{raw_handshake, view_raw_handshake}
use Rattle.tls_places.specs.Place.{Stands}
use Rattle.wispuddera_c.specs.Place.{place_of}
use Rattle.wispuddera_c.specs.Stream.{bytes_held}
use Rattle.wispuddera_c.proofs.StatusLemmas.{answered}
use Rattle.wispuddera_c.proofs.stream.wispuddera_next_message.Goals as goal

pub returns-in-Ok-clause-read : goal.returns-in-Ok-clause-read
returns-in-Ok-clause-read c = λ lies.
    let held : Stands c.args.buffer.now (place_of c.args.held.now) c.in-Some.bytes.now =
    c.in-Some.ensures.some in
    answered raw_handshake _ (bytes_held c.args.buffer.now c.args.held.now) c.in-Some.bytes.now
    c.in-Ok.rest.now
    (view_raw_handshake c.in-Ok.message) (sym held.is) c.in-Ok.ensures.gives.read
    (record {
      kind = c.from.ensures;
      content = subst (λ p. Stands c.args.buffer.now p c.in-Ok.message.body.now)
          (sym c.in_c.ensures)
          (c.place_within.ensures c.in-Some.bytes.now c.in-Ok.message.body.now held
          (c.in-Ok.ensures.stands (ends_here c.in-Some.bytes.now)));
      next = refl;
      holds = c.place_of_rest-left.ensures held
          (c.in-Ok.ensures.ends (ends_here c.in-Some.bytes.now));
    })

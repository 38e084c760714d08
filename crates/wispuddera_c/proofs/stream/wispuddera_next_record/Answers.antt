use Rattle.std.proofs.Common.{refl, sym, subst}
use Rattle.layouts.proofs.PlaceLemmas.{ends_here}
use Rattle.tls_records.specs.Record.{raw_record, view_raw_record}
use Rattle.tls_places.specs.Place.{Stands}
use Rattle.wispuddera_c.specs.Place.{place_of}
use Rattle.wispuddera_c.specs.Stream.{bytes_held}
use Rattle.wispuddera_c.proofs.StatusLemmas.{answered}
use Rattle.wispuddera_c.proofs.stream.wispuddera_next_record.Goals as goal

pub returns-in-Ok-clause-read : goal.returns-in-Ok-clause-read
returns-in-Ok-clause-read c = λ lies.
    let held : Stands c.args.buffer.now (place_of c.args.held.now) c.in-Some.bytes.now =
    c.in-Some.ensures.some in
    answered raw_record _ (bytes_held c.args.buffer.now c.args.held.now) c.in-Some.bytes.now
    c.in-Ok.rest.now
    (view_raw_record c.in-Ok.record) (sym held.is) c.in-Ok.ensures.gives.read
    (record {
      content_type = refl;
      version = refl;
      length = refl;
      fragment = subst (λ p. Stands c.args.buffer.now p c.in-Ok.record.bytes.now)
          (sym c.in_c.ensures)
          (c.place_within.ensures c.in-Some.bytes.now c.in-Ok.record.bytes.now held
          (c.in-Ok.ensures.stands (ends_here c.in-Some.bytes.now)));
      next = refl;
      holds = c.place_of_rest-left.ensures held
          (c.in-Ok.ensures.ends (ends_here c.in-Some.bytes.now));
    })

use Rattle.std.proofs.Common.{Ok, Some, ap, sym, ◌∙◌}
use Rattle.layouts.specs.Items.{items_in}
use Rattle.layouts.specs.Layout.{counted}
use Rattle.layouts.specs.Place.{bytes_at}
use Rattle.layouts.specs.Reading.{reading}
use Rattle.tls_ext.specs.Content as content
use Rattle.tls_ext.specs.InPlace.{in_content, names_of_protocols, picked}
use Rattle.tls_places.specs.Place.{Stands}
use Rattle.tls_places.proofs.PlaceLemmas.{lies_stands}
use Rattle.tls_places.proofs.FindLemmas.{lies_there, stands_same, found_there}
use Rattle.tls_places.proofs.find.protocol_names_place.Goals as goal

list_stands : (c : goal.After-place_within)
    → Stands c.args.block.now c.place_within.result c.in_ok-inner.field-0-1-0.bytes.now
list_stands c =
    c.place_within.ensures (bytes_at c.args.block.now c.in-Some.outer)
    c.in_ok-inner.field-0-1-0.bytes.now
    (lies_stands c.args.block.now c.in-Some.outer
    (lies_there c.args.block.now c.in-Some.outer c.in_ok-outer.field-0 c.in-Some.is
    c.in_ok-outer.ensures.within))
    (stands_same c.bytes_at.result.now
    (bytes_at c.args.block.now c.in-Some.outer) c.in_ok-inner.field-0-1-0.bytes.now
    c.in_ok-inner.inner
    c.bytes_at.ensures c.in_ok-inner.ensures.stands)

pub returns-clause-finds : goal.returns-clause-finds
returns-clause-finds c = record {
  answers = tt;
  is = ap (λ y. Ok (Some (items_in (counted 1) y))) (list_stands c).is
      ∙ sym (ap (in_content content.application_layer_protocol_negotiation names_of_protocols)
      (sym (found_there c.args.block.now c.in-Some.outer c.in_ok-outer.field-0 _ c.in-Some.is
      c.in_ok-outer.ensures.finds))
      ∙ ap (λ x. picked names_of_protocols
      (reading content.application_layer_protocol_negotiation x))
      (sym c.bytes_at.ensures)
      ∙ ap (picked names_of_protocols) c.in_ok-inner.ensures.gives.read);
}

pub returns-clause-within : goal.returns-clause-within
returns-clause-within c = (list_stands c).within

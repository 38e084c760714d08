use Rattle.std.proofs.Common.{ap, sym, ◌∙◌}
use Rattle.layouts.specs.Items.{items_in}
use Rattle.tls_ext.specs.Content as content
use Rattle.tls_ext.specs.Extension.{view_server_name}
use Rattle.tls_places.specs.Place.{Stands}
use Rattle.tls_places.proofs.FindLemmas.{stands_same, name_found}
use Rattle.tls_places.proofs.find.first_name_place.Goals as goal

name_stands : (c : goal.After-place_within)
    → Stands c.args.i.now c.place_within.result c.in-Some.field-0-0.1.now
name_stands c =
    c.place_within.ensures c.in_ok-names.names.bytes.now c.in-Some.field-0-0.1.now
    c.in_ok-names.ensures.stands
    (stands_same c.new-walk.result.whole.now c.in_ok-names.names.bytes.now c.in-Some.field-0-0.1.now
    c.in-Some.inner
    (c.new-walk.ensures.whole ∙ c.bytes.ensures) c.in-Some.ensures.steps.stands)

pub returns-in-Some-clause-finds : goal.returns-in-Some-clause-finds
returns-in-Some-clause-finds c = record {
  answers = tt;
  is = name_found c.args.i.now c.in_ok-names.names.bytes.now c.in_ok-names.field-0-0.now
      (view_server_name c.in-Some.field-0-0)
      (items_in content.server_name c.next.new.self.rest.now) c.place_within.result
      c.in_ok-names.ensures.gives.read
      (ap (items_in content.server_name) (sym (c.new-walk.ensures.rest ∙ c.bytes.ensures))
      ∙ c.in-Some.ensures.steps.first) (name_stands c).is;
}

pub returns-in-Some-clause-within : goal.returns-in-Some-clause-within
returns-in-Some-clause-within c = (name_stands c).within

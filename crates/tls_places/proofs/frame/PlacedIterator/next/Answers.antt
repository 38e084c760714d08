use Rattle.std.proofs.Common.{refl}
use Rattle.layouts.proofs.ItemsLemmas.{items_first}
use Rattle.tls_places.proofs.PlaceLemmas.{is_end, ends_of}
use Rattle.tls_places.proofs.frame.PlacedIterator.next.Goals as goal

pub invariant_of-self : goal.invariant_of-self
invariant_of-self g c = record {
  ends = is_end c.args.self.now.whole.now c.in-Ok.rest.now
      (c.in-Ok.ensures.ends
      (ends_of c.args.self.now.whole.now c.args.self.now.rest.now c.args.self.now.ends));
}

pub returns-in-Ok-clause-steps : goal.returns-in-Ok-clause-steps
returns-in-Ok-clause-steps g c = record {
  first = items_first g.T.InPlace.layout c.args.self.now.rest.now
      (g.T.InPlace.view c.in-Ok.item.0) c.in-Ok.rest.now c.in-Ok.ensures.gives.read
      c.if-rest-self.true;
  same = refl;
  stands = c.in-Ok.ensures.stands
      (ends_of c.args.self.now.whole.now c.args.self.now.rest.now c.args.self.now.ends);
}

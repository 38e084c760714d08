use Rattle.connections.proofs.laws.is_ordered.Goals as goal

pub returns : goal.returns
returns g c = record {
  agrees = g.met.T.Ord.matches_partial_cmp;
  total = g.met.T.Ord.total;
  partial =
      g.met.T.PartialOrd.laws;
}

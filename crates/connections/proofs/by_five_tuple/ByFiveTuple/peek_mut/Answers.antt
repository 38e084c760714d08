use Rattle.std.proofs.Common.{inl, refl, ap, ◌∙◌}
use Rattle.connections.specs.ByFiveTuple.{keyed_table}
use Rattle.connections.proofs.HashLemmas.{lookup-unhashed, set_value-unhashed, AreHashed-set_value}
use Rattle.connections.proofs.by_five_tuple.ByFiveTuple.peek_mut.Goals as goal

pub returns-in_err-value : goal.returns-in_err-value
returns-in_err-value g c =
    rw (c.from_residual.ensures, ← c.self.view_is) (
      refl,
      record {
        writes_back = tt;
        value = c.in_err-value.ensures.value
            ∙ lookup-unhashed c.self.inside.keys c.args.five_tuple.now c.change_to.new.self
            c.change_to.ensures c.self.inside.table.entries c.self.invariant.0;
      },
    )

pub invariant_of-self-lent : goal.invariant_of-self-lent
invariant_of-self-lent g c =
    λ w. (
      AreHashed-set_value c.self.inside.keys c.args.five_tuple.now c.change_to.new.self
          c.change_to.ensures c.self.inside.table.entries w c.self.invariant.0,
      rw c.change_to.ensures refl,
    )

pub returns : goal.returns
returns g c =
    let ends = c.change_to.new.self in let is = c.change_to.ensures in let keys =
    c.self.inside.keys in let e = c.args.five_tuple.now in let xs = c.self.inside.table.entries in
    let cap = c.self.inside.table.cap in
    rw (← c.self.view_is) (
      (λ i. inl (
        c.in_ok-value.value.ghost_name,
        λ w. ap (λ es. keyed_table keys es cap)
            (set_value-unhashed keys e ends is xs w c.self.invariant.0) i,
      )),
      record {
        writes_back = tt;
        value =
            rw (← lookup-unhashed keys e ends is xs c.self.invariant.0) c.in_ok-value.ensures.value;
      },
    )

use Rattle.std.proofs.Common.{arith}
use Rattle.tunnels.proofs.TagLemmas.{bounded}
use Rattle.tunnels.proofs.tags.+add_inner.Goals as goal

-- src/tags.rt:40:13
pub add_inner-requires : goal.add_inner-requires
add_inner-requires t c =
    let is = c.decreases in let some = c.if-most-gt0.true in
    (omega (arith, is, some), (c.inner_layer.ensures.answers, bounded _ _ c.add_of_frame.ensures))

use Rattle.std.proofs.Common.{◌≡◌, ◌<◌, ◌++◌, length, take, ap, sym, ◌∙◌, rules, arith}
use Rattle.std.proofs.lemmas.List.{length-set}
use Rattle.layouts.specs.Items.{items_in}
use Rattle.layouts.specs.Layout.{number}
use Rattle.tls_fingerprints.specs.Numbers.{without_grease}
use Rattle.tls_fingerprints.proofs.JoinLemmas.{kept_keeps, kept_skips}
use Rattle.tls_fingerprints.proofs.RoomLemmas.{room_filled}
use Rattle.tls_fingerprints.proofs.room.kept_in.Goals as goal

pub loop-n-init : goal.loop-n-init
loop-n-init c =
    let same : c.into_iter-n-iterator.result.bytes.now ≡ c.args.numbers.bytes.now = search rules in
    record {
      can_next = tt;
      is_finite = tt;
      within = omega arith;
      kept = ap (λ b. without_grease (items_in (number 2) b)) same;
    }

pub loop-n-preserved-then-is_grease : goal.loop-n-preserved-then-is_grease
loop-n-preserved-then-is_grease c = record {
  can_next = tt;
  is_finite = tt;
  within = c.loop-n.invariant.within;
  kept = ap (λ ns. take c.loop-n.count c.loop-n.room ++ ns)
      (sym (kept_skips _ _ c.in-Some.n c.in-Some.ensures.steps
      (sym c.is_grease.ensures ∙ c.if-is_grease.true)))
      ∙ c.loop-n.invariant.kept;
}

pub loop-n-preserved : goal.loop-n-preserved
loop-n-preserved c =
    let short : c.loop-n.count < length c.loop-n.room = search rules in
    let keeps = kept_keeps _ _ c.in-Some.n c.in-Some.ensures.steps
    (sym c.is_grease.ensures ∙ c.if-is_grease.false) in
    record {
      can_next = tt;
      is_finite = tt;
      within = omega (arith, length-set c.loop-n.room c.loop-n.count c.in-Some.n);
      kept = room_filled c.loop-n.room c.loop-n.count c.in-Some.n _ _ _ short keeps
          c.loop-n.invariant.kept;
    }

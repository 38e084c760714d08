use Rattle.std.proofs.Common.{◌≡◌, ◌+◌, ◌<◌, ◌++◌, length, take, ap, sym, ◌∙◌, rules, arith}
use Rattle.std.proofs.lemmas.List.{length-set}
use Rattle.layouts.specs.Items.{items_in}
use Rattle.tls_ext.specs.InPlace.{extension_type}
use Rattle.tls_fingerprints.specs.Ja4.{other_types}
use Rattle.tls_fingerprints.specs.Numbers.{without_grease}
use Rattle.tls_fingerprints.proofs.JoinLemmas.{kept_keeps, kept_skips}
use Rattle.tls_fingerprints.proofs.RoomLemmas.{counted_more, others_keep, others_skip, room_filled}
use Rattle.tls_fingerprints.proofs.room.other_types_in.Goals as goal

pub loop-kind-init : goal.loop-kind-init
loop-kind-init c =
    let same : c.into_iter-kind-iterator.result.bytes.now ≡ c.args.types.bytes.now = search rules in
    let size = ap (λ b. length (without_grease (items_in extension_type b))) same in
    record {
      can_next = tt;
      is_finite = tt;
      within = omega arith;
      fewer = omega arith;
      counted = omega (arith, size);
      kept = ap (λ b. other_types (without_grease (items_in extension_type b))) same;
    }

pub loop-kind-preserved-then-is_grease : goal.loop-kind-preserved-then-is_grease
loop-kind-preserved-then-is_grease c =
    let skips = kept_skips _ _ c.in-Some.kind.0 c.in-Some.ensures.steps
    (sym c.is_grease.ensures ∙ c.if-is_grease.true) in
    record {
      can_next = tt;
      is_finite = tt;
      within = c.loop-kind.invariant.within;
      fewer = c.loop-kind.invariant.fewer;
      counted = ap (λ ns. c.loop-kind.all + length ns) (sym skips) ∙ c.loop-kind.invariant.counted;
      kept = ap (λ ns. take c.loop-kind.others c.loop-kind.room ++ other_types ns) (sym skips)
          ∙ c.loop-kind.invariant.kept;
    }

pub loop-kind-preserved-then-is_in_first_part : goal.loop-kind-preserved-then-is_in_first_part
loop-kind-preserved-then-is_in_first_part c =
    let short : c.loop-kind.all < length c.loop-kind.room = search rules in
    let keeps = kept_keeps _ _ c.in-Some.kind.0 c.in-Some.ensures.steps
    (sym c.is_grease.ensures ∙ c.if-is_grease.false) in
    let fewer = c.loop-kind.invariant.fewer in
    record {
      can_next = tt;
      is_finite = tt;
      within = omega (arith, short);
      fewer = omega (arith, fewer);
      counted = counted_more c.loop-kind.all c.in-Some.kind.0 _ _ _ keeps
          c.loop-kind.invariant.counted;
      kept = ap (λ ns. take c.loop-kind.others c.loop-kind.room ++ ns)
          (sym (others_skip _ _ c.in-Some.kind.0 keeps
          (sym c.is_in_first_part.ensures ∙ c.if-is_in_first_part.true)))
          ∙ c.loop-kind.invariant.kept;
    }

pub loop-kind-preserved : goal.loop-kind-preserved
loop-kind-preserved c =
    let short : c.loop-kind.all < length c.loop-kind.room = search rules in
    let keeps = kept_keeps _ _ c.in-Some.kind.0 c.in-Some.ensures.steps
    (sym c.is_grease.ensures ∙ c.if-is_grease.false) in
    let fewer = c.loop-kind.invariant.fewer in
    let room : c.loop-kind.others < length c.loop-kind.room = omega (arith, short, fewer) in
    record {
      can_next = tt;
      is_finite = tt;
      within = omega
          (arith, short, length-set c.loop-kind.room c.loop-kind.others c.in-Some.kind.0);
      fewer = omega (arith, fewer);
      counted = counted_more c.loop-kind.all c.in-Some.kind.0 _ _ _ keeps
          c.loop-kind.invariant.counted;
      kept = room_filled c.loop-kind.room c.loop-kind.others c.in-Some.kind.0 _ _ _ room
          (others_keep _ _ c.in-Some.kind.0 keeps
          (sym c.is_in_first_part.ensures ∙ c.if-is_in_first_part.false))
          c.loop-kind.invariant.kept;
    }

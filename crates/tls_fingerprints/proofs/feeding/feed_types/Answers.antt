use Rattle.std.proofs.Common.{◌≡◌, ap, sym, ◌∙◌, rules, decimal}
use Rattle.md5.specs.Md5.{Holds}
use Rattle.layouts.specs.Items.{items_in}
use Rattle.tls_ext.specs.InPlace.{extension_type}
use Rattle.tls_fingerprints.specs.Numbers.{behind_others, dashed, without_grease}
use Rattle.tls_fingerprints.proofs.JoinLemmas.{
  ahead_begins,
  ahead_ends,
  ahead_goes_on,
  ahead_stays,
  kept_keeps,
  kept_skips,
  left_next,
  left_none,
  left_text,
}
use Rattle.tls_fingerprints.proofs.feeding.feed_types.Goals as goal

pub loop-kind-init : goal.loop-kind-init
loop-kind-init c =
    let same : c.into_iter-kind-iterator.result.bytes.now ≡ c.args.types.bytes.now = search rules in
    record {
      can_next = tt;
      is_finite = tt;
      ahead = λ m held. ahead_begins Holds c.args.text.now m
          (dashed (without_grease (items_in extension_type c.args.types.bytes.now)))
          (dashed (without_grease
          (items_in extension_type c.into_iter-kind-iterator.result.bytes.now))) held
          (ap (λ b. dashed (without_grease (items_in extension_type b))) same);
    }

pub loop-kind-preserved-then-is_grease : goal.loop-kind-preserved-then-is_grease
loop-kind-preserved-then-is_grease c = record {
  can_next = tt;
  is_finite = tt;
  ahead = λ m held. ahead_stays Holds c.loop-kind.text _ _ _ (c.loop-kind.invariant.ahead m held)
      (ap (left_text 45 decimal c.loop-kind.is_first)
      (kept_skips _ _ c.in-Some.kind.0 c.in-Some.ensures.steps
      (sym c.is_grease.ensures ∙ c.if-is_grease.true)));
}

pub loop-kind-preserved : goal.loop-kind-preserved
loop-kind-preserved c = record {
  can_next = tt;
  is_finite = tt;
  ahead = λ m held. ahead_goes_on Holds c.loop-kind.text c.feed_next.new.text _ _
      (behind_others 45 c.loop-kind.is_first (decimal c.in-Some.kind.0)) _
      (c.loop-kind.invariant.ahead m held)
      (ap (left_text 45 decimal c.loop-kind.is_first)
      (kept_keeps _ _ c.in-Some.kind.0 c.in-Some.ensures.steps
      (sym c.is_grease.ensures ∙ c.if-is_grease.false))
      ∙ left_next 45 decimal c.loop-kind.is_first c.in-Some.kind.0
      (without_grease (items_in extension_type c.next.new.self.bytes.now)))
      c.feed_next.ensures;
}

pub returns : goal.returns
returns c = λ m held. ahead_ends Holds c.loop-kind.text _ _ (c.loop-kind.invariant.ahead m held)
    (ap (λ ns. left_text 45 decimal c.loop-kind.is_first (without_grease ns))
    c.in-None.ensures.steps.0
    ∙ left_none 45 decimal c.loop-kind.is_first)

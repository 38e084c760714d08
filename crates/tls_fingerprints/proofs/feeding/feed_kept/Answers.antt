use Rattle.std.proofs.Common.{◌≡◌, ap, sym, ◌∙◌, rules, decimal}
use Rattle.md5.specs.Md5.{Holds}
use Rattle.layouts.specs.Items.{items_in}
use Rattle.layouts.specs.Layout.{number}
use Rattle.tls_fingerprints.specs.Numbers.{behind_others, dashed, without_grease}
use Rattle.tls_fingerprints.proofs.JoinLemmas.{
  ahead_begins,
  ahead_ends,
  ahead_goes_on,
  ahead_stays,
  kept_keeps,
  kept_skips,
  left_next,
  left_none,
  left_text,
}
use Rattle.tls_fingerprints.proofs.feeding.feed_kept.Goals as goal

pub loop-n-init : goal.loop-n-init
loop-n-init c =
    let same : c.into_iter-n-iterator.result.bytes.now ≡ c.args.numbers.bytes.now = search rules in
    record {
      can_next = tt;
      is_finite = tt;
      ahead = λ m held. ahead_begins Holds c.args.text.now m
          (dashed (without_grease (items_in (number 2) c.args.numbers.bytes.now)))
          (dashed (without_grease (items_in (number 2) c.into_iter-n-iterator.result.bytes.now)))
          held
          (ap (λ b. dashed (without_grease (items_in (number 2) b))) same);
    }

pub loop-n-preserved-then-is_grease : goal.loop-n-preserved-then-is_grease
loop-n-preserved-then-is_grease c = record {
  can_next = tt;
  is_finite = tt;
  ahead = λ m held. ahead_stays Holds c.loop-n.text _ _ _ (c.loop-n.invariant.ahead m held)
      (ap (left_text 45 decimal c.loop-n.is_first)
      (kept_skips _ _ c.in-Some.n c.in-Some.ensures.steps
      (sym c.is_grease.ensures ∙ c.if-is_grease.true)));
}

pub loop-n-preserved : goal.loop-n-preserved
loop-n-preserved c = record {
  can_next = tt;
  is_finite = tt;
  ahead = λ m held. ahead_goes_on Holds c.loop-n.text c.feed_next.new.text _ _
      (behind_others 45 c.loop-n.is_first (decimal c.in-Some.n)) _ (c.loop-n.invariant.ahead m held)
      (ap (left_text 45 decimal c.loop-n.is_first)
      (kept_keeps _ _ c.in-Some.n c.in-Some.ensures.steps
      (sym c.is_grease.ensures ∙ c.if-is_grease.false))
      ∙ left_next 45 decimal c.loop-n.is_first c.in-Some.n
      (without_grease (items_in (number 2) c.next.new.self.bytes.now)))
      c.feed_next.ensures;
}

pub returns : goal.returns
returns c = λ m held. ahead_ends Holds c.loop-n.text _ _ (c.loop-n.invariant.ahead m held)
    (ap (λ ns. left_text 45 decimal c.loop-n.is_first (without_grease ns)) c.in-None.ensures.steps.0
    ∙ left_none 45 decimal c.loop-n.is_first)

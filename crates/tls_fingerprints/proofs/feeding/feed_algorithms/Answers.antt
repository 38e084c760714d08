use Rattle.std.proofs.Common.{◌≡◌, ◌++◌, ◌∷◌, false, ap, sym, ◌∙◌, rules}
use Rattle.sha2.specs.Hashers.{Holds256}
use Rattle.layouts.specs.Items.{items_in}
use Rattle.layouts.specs.Layout.{number}
use Rattle.tls_fingerprints.specs.Numbers.{four_digits, has_any, without_grease}
use Rattle.tls_fingerprints.proofs.JoinLemmas.{
  ahead_ends,
  ahead_goes_on,
  ahead_stays,
  algorithms_begin,
  algorithms_left,
  algorithms_next,
  algorithms_none,
  any_left,
  any_next,
  any_none,
  kept_keeps,
  kept_skips,
}
use Rattle.tls_fingerprints.proofs.feeding.feed_algorithms.Goals as goal

pub loop-n-init : goal.loop-n-init
loop-n-init c =
    let same : c.into_iter-n-iterator.result.bytes.now ≡ c.args.algorithms.bytes.now =
    search rules in
    let kept = ap (λ b. without_grease (items_in (number 2) b)) same in
    record {
      can_next = tt;
      is_finite = tt;
      ahead = λ m held. algorithms_begin Holds256 c.args.text.now m _ _ held kept;
      any = ap has_any kept;
    }

pub loop-n-preserved-then-is_grease : goal.loop-n-preserved-then-is_grease
loop-n-preserved-then-is_grease c =
    let skips = kept_skips _ _ c.in-Some.n c.in-Some.ensures.steps
    (sym c.is_grease.ensures ∙ c.if-is_grease.true) in
    record {
      can_next = tt;
      is_finite = tt;
      ahead = λ m held. ahead_stays Holds256 c.loop-n.text _ _ _ (c.loop-n.invariant.ahead m held)
          (ap (algorithms_left c.loop-n.is_first) skips);
      any = ap (any_left c.loop-n.is_first) (sym skips) ∙ c.loop-n.invariant.any;
    }

pub loop-n-preserved : goal.loop-n-preserved
loop-n-preserved c =
    let keeps = kept_keeps _ _ c.in-Some.n c.in-Some.ensures.steps
    (sym c.is_grease.ensures ∙ c.if-is_grease.false) in
    let others = without_grease (items_in (number 2) c.next.new.self.bytes.now) in
    record {
      can_next = tt;
      is_finite = tt;
      ahead = λ m held. ahead_goes_on Holds256 c.loop-n.text c.update.new.self _ _
          c.led_digits-digits.result _
          (c.loop-n.invariant.ahead m held)
          (ap (algorithms_left c.loop-n.is_first) keeps
          ∙ algorithms_next c.loop-n.is_first c.in-Some.n others
          ∙ ap (λ t. t ++ algorithms_left false others)
          (sym (c.led_digits-digits.ensures
          ∙ ap (λ x. x ∷ four_digits c.in-Some.n) c.lead_of-lead.ensures)))
          c.update.ensures;
      any = sym (any_next c.loop-n.is_first c.in-Some.n others)
          ∙ ap (any_left c.loop-n.is_first) (sym keeps)
          ∙ c.loop-n.invariant.any;
    }

pub returns-clause-text : goal.returns-clause-text
returns-clause-text c =
    λ m held. ahead_ends Holds256 c.loop-n.text _ _ (c.loop-n.invariant.ahead m held)
    (ap (λ ns. algorithms_left c.loop-n.is_first (without_grease ns)) c.in-None.ensures.steps.0
    ∙ algorithms_none c.loop-n.is_first)

pub returns-clause-any : goal.returns-clause-any
returns-clause-any c = sym (any_none c.loop-n.is_first)
    ∙ ap (λ ns. any_left c.loop-n.is_first (without_grease ns)) (sym c.in-None.ensures.steps.0)
    ∙ c.loop-n.invariant.any

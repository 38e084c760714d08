use Rattle.std.proofs.Common.{◌≡◌, ◌+◌, nat_lt, true, false, refl, sym, ◌∙◌, arith, rules}
use Rattle.ip_fragments.specs.Table.{weight}
use Rattle.ip_fragments.proofs.TableLemmas.{counted_low, evicted_step, kept_all, kept_empty, kept_one, none_counted, none_left, weight_front}
use Rattle.ip_fragments.proofs.fragments.forget_over.Goals as goal

pub loop-oldest-init : goal.loop-oldest-init
loop-oldest-init c =
    (refl, refl, c.requires.held, c.requires.within, refl, search rules)

pub loop-oldest-preserved-else-not-is_over : goal.loop-oldest-preserved-else-not-is_over
loop-oldest-preserved-else-not-is_over c =
    let more = c.args.more in
    let u = c.loop-oldest.waiting.entries in
    let k = c.in-Some.field-0-0.now in
    let w = c.in-Some.oldest.now in
    let last = c.in-Some.ensures in
    let i = c.loop-oldest.invariant in
    let over : nat_lt 33554432 (weight u + more) ≡ true =
    rw i.2 at (sym c.is_over.ensures.is ∙ c.if-not-is_over.false) in
    let front = weight_front u k w last in
    let its = c.weight-sum.ensures in
    let sum = i.2 in
    let low = i.3 in
    rw c.pop_lru.ensures.entries (
      kept_one more u k w last over ∙ i.0,
      evicted_step more u k w c.loop-oldest.evicted c.count_one-evicted.result last over
          c.count_one-evicted.ensures
          ∙ i.1,
      omega (arith, front, its, sum),
      omega (arith, low),
      i.4,
      counted_low c.count_one-evicted.result _ _ c.count_one-evicted.ensures,
    )

pub returns-then-not-is_over-clause-kept : goal.returns-then-not-is_over-clause-kept
returns-then-not-is_over-clause-kept c =
    let u = c.loop-oldest.waiting.entries in
    let w = c.in-Some.oldest.now in
    let i = c.loop-oldest.invariant in
    let stays : nat_lt 33554432 (weight u + c.args.more) ≡ false =
    rw i.2 at (sym c.is_over.ensures.is ∙ c.if-not-is_over.true) in
    sym (kept_all c.args.more u c.in-Some.field-0-0.now w c.in-Some.ensures stays) ∙ i.0

pub returns-then-not-is_over-clause-evicted : goal.returns-then-not-is_over-clause-evicted
returns-then-not-is_over-clause-evicted c =
    let u = c.loop-oldest.waiting.entries in
    let w = c.in-Some.oldest.now in
    let i = c.loop-oldest.invariant in
    let stays : nat_lt 33554432 (weight u + c.args.more) ≡ false =
    rw i.2 at (sym c.is_over.ensures.is ∙ c.if-not-is_over.true) in
    none_counted c.loop-oldest.evicted u c.args.more
    (kept_all c.args.more u c.in-Some.field-0-0.now w c.in-Some.ensures stays) i.5
    ∙ i.1

pub returns-in_default-clause-kept : goal.returns-in_default-clause-kept
returns-in_default-clause-kept c =
    sym (kept_empty c.args.more c.loop-oldest.waiting.entries (sym c.in_default.ensures))
    ∙ c.loop-oldest.invariant.0

pub returns-in_default-clause-evicted : goal.returns-in_default-clause-evicted
returns-in_default-clause-evicted c =
    let u = c.loop-oldest.waiting.entries in
    none_counted c.loop-oldest.evicted u c.args.more
    (kept_empty c.args.more u (sym c.in_default.ensures)) c.loop-oldest.invariant.5
    ∙ c.loop-oldest.invariant.1

pub returns-in_default-clause-room : goal.returns-in_default-clause-room
returns-in_default-clause-room c =
    let none = none_left c.loop-oldest.waiting.entries (sym c.in_default.ensures) in
    let sum = c.loop-oldest.invariant.2 in
    let few = c.requires.few in
    omega (arith, none, sum, few)

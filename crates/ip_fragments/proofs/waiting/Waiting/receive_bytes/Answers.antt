use Rattle.std.proofs.Common.{◌+◌, length, refl, sym, ap, ◌∙◌, arith}
use Rattle.ip_fragments.specs.Runs.{joined, runs_with}
use Rattle.ip_fragments.specs.Waiting.{first_protocol, with_runs}
use Rattle.ip_fragments.proofs.RunLemmas.{filled_low}
use Rattle.ip_fragments.proofs.WaitingLemmas.{grown, grown_most, long_view, mixed_view, receives_keeps, receives_long, receives_mixed, receives_whole, whole_view}
use Rattle.ip_fragments.proofs.waiting.Waiting.receive_bytes.Goals as goal

pub overflow_add-self-inside : goal.overflow_add-self-inside
overflow_add-self-inside c =
    let low = filled_low c.self.inside.runs.items in
    let is = c.self.invariant.0 in
    let light = rw (← c.self.view_is) at c.requires.light in
    let short = c.requires.short in
    omega (arith, low, is, light, short)

pub returns-in_default-clause-receives : goal.returns-in_default-clause-receives
returns-in_default-clause-receives c =
    let whole = whole_view c.args.fragment.now _ c.args.self.now c.self.view_is c.args.gap
    c.args.bytes.now (c.self.inside.filled + length c.args.bytes.now) c.with-extent.result.reach
    c.with-extent.result.is_ended c.with-extent.result.protocol c.requires.gap c.requires.bytes
    (ap (λ n. n + length c.args.bytes.now) c.self.invariant.0) c.with-extent.ensures.reach
    c.with-extent.ensures.ended c.with-extent.ensures.protocol in
    receives_keeps c.args.fragment.now _ c.args.self.now c.hold.new.self _
    (whole ∙ sym c.in_default.ensures.whole) refl c.in_ok-hold.ensures.ok

pub returns-in_default-clause-grows : goal.returns-in_default-clause-grows
returns-in_default-clause-grows c =
    grown c.args.fragment.now c.args.self.now c.hold.new.self c.args.gap c.args.bytes.now
    c.requires.gap c.in_ok-hold.ensures.ok

pub returns-in_default-clause-most : goal.returns-in_default-clause-most
returns-in_default-clause-most c =
    grown_most c.args.fragment.now c.args.self.now c.hold.new.self c.args.gap c.args.bytes.now
    c.requires.gap c.in_ok-hold.ensures.ok

pub returns-then-is_ecn_mixed-clause-receives : goal.returns-then-is_ecn_mixed-clause-receives
returns-then-is_ecn_mixed-clause-receives c =
    let whole = whole_view c.args.fragment.now _ c.args.self.now c.self.view_is c.args.gap
    c.args.bytes.now (c.self.inside.filled + length c.args.bytes.now) c.with-extent.result.reach
    c.with-extent.result.is_ended c.with-extent.result.protocol c.requires.gap c.requires.bytes
    (ap (λ n. n + length c.args.bytes.now) c.self.invariant.0) c.with-extent.ensures.reach
    c.with-extent.ensures.ended c.with-extent.ensures.protocol in
    let mixed = mixed_view c.args.fragment.now _ c.args.self.now c.self.view_is
    (runs_with c.args.gap c.args.fragment.now.offset c.args.bytes.now c.args.self.now.runs)
    c.with-extent.result.has_not_ect c.with-extent.result.has_ect
    c.with-extent.ensures.has_not_ect c.with-extent.ensures.has_ect in
    receives_mixed c.args.fragment.now _ c.args.self.now c.args.self.now
    (with_runs c.args.fragment.now (runs_with c.args.gap c.args.fragment.now.offset
    c.args.bytes.now c.args.self.now.runs) c.args.self.now)
    (whole ∙ sym c.in-Some.ensures.whole)
    (mixed ∙ sym c.is_ecn_mixed.ensures ∙ c.if-is_ecn_mixed.true) refl refl

pub returns-then-is_too_long-clause-receives : goal.returns-then-is_too_long-clause-receives
returns-then-is_too_long-clause-receives c =
    let whole = whole_view c.args.fragment.now _ c.args.self.now c.self.view_is c.args.gap
    c.args.bytes.now (c.self.inside.filled + length c.args.bytes.now) c.with-extent.result.reach
    c.with-extent.result.is_ended c.with-extent.result.protocol c.requires.gap c.requires.bytes
    (ap (λ n. n + length c.args.bytes.now) c.self.invariant.0) c.with-extent.ensures.reach
    c.with-extent.ensures.ended c.with-extent.ensures.protocol in
    let mixed = mixed_view c.args.fragment.now _ c.args.self.now c.self.view_is
    (runs_with c.args.gap c.args.fragment.now.offset c.args.bytes.now c.args.self.now.runs)
    c.with-extent.result.has_not_ect c.with-extent.result.has_ect
    c.with-extent.ensures.has_not_ect c.with-extent.ensures.has_ect in
    let long = long_view c.args.fragment.now _ c.args.self.now c.self.view_is
    (runs_with c.args.gap c.args.fragment.now.offset c.args.bytes.now c.args.self.now.runs)
    c.args.bytes.now c.with-extent.result.reach c.with-extent.result.in_front c.requires.bytes
    c.with-extent.ensures.reach c.with-extent.ensures.in_front in
    receives_long c.args.fragment.now _ c.args.self.now c.args.self.now _
    (whole ∙ sym c.in-Some.ensures.whole)
    (mixed ∙ sym c.is_ecn_mixed.ensures ∙ c.if-is_ecn_mixed.false)
    (long ∙ sym c.is_too_long.ensures ∙ c.if-is_too_long.true) refl refl

pub returns-clause-receives : goal.returns-clause-receives
returns-clause-receives c =
    let whole = whole_view c.args.fragment.now _ c.args.self.now c.self.view_is c.args.gap
    c.args.bytes.now (c.self.inside.filled + length c.args.bytes.now) c.with-extent.result.reach
    c.with-extent.result.is_ended c.with-extent.result.protocol c.requires.gap c.requires.bytes
    (ap (λ n. n + length c.args.bytes.now) c.self.invariant.0) c.with-extent.ensures.reach
    c.with-extent.ensures.ended c.with-extent.ensures.protocol in
    let mixed = mixed_view c.args.fragment.now _ c.args.self.now c.self.view_is
    (runs_with c.args.gap c.args.fragment.now.offset c.args.bytes.now c.args.self.now.runs)
    c.with-extent.result.has_not_ect c.with-extent.result.has_ect
    c.with-extent.ensures.has_not_ect c.with-extent.ensures.has_ect in
    let long = long_view c.args.fragment.now _ c.args.self.now c.self.view_is
    (runs_with c.args.gap c.args.fragment.now.offset c.args.bytes.now c.args.self.now.runs)
    c.args.bytes.now c.with-extent.result.reach c.with-extent.result.in_front c.requires.bytes
    c.with-extent.ensures.reach c.with-extent.ensures.in_front in
    receives_whole c.args.fragment.now _ c.args.self.now c.args.self.now _
    (whole ∙ sym c.in-Some.ensures.whole)
    (mixed ∙ sym c.is_ecn_mixed.ensures ∙ c.if-is_ecn_mixed.false)
    (long ∙ sym c.is_too_long.ensures ∙ c.if-is_too_long.false)
    (record {
      source = refl;
      destination = refl;
      protocol = sym c.in-Some.ensures.is ∙ c.with-extent.ensures.protocol
          ∙ ap (λ v. first_protocol v.protocol c.args.fragment.now) c.self.view_is;
      right = refl;
      payload = c.in_ok-payload.ensures
          ∙ ap (λ l. joined (runs_with c.args.gap c.args.fragment.now.offset c.args.bytes.now l))
          (c.deref.ensures.value ∙ ap (λ v. v.runs) c.self.view_is);
      disagreeing = ap (λ v. v.disagreeing) c.self.view_is;
    }) refl

use Rattle.std.proofs.Common.{rules, ◌≡◌, ◌-◌, OnOk, drop, length, true, false, subst, sym}
use Rattle.layouts.specs.Bytes.{Bytes}
use Rattle.tls_detection.specs.Front.{begins_tls}
use Rattle.tls_analyzer.specs.Analyzers.{IsFirstRead, IsNext, front, waiting}
use Rattle.tls_analyzer.proofs.FirstLemmas.{first_other, first_tls, front_is}
use Rattle.tls_analyzer.proofs.analyzer.Analyzer.analyze_first.Goals as goal

pub returns-then-begins_tls : goal.returns-then-begins_tls
returns-then-begins_tls g c =
    let w : Bytes = (waiting c.args.self.now c.args.side).items in
    let count : c.saturating_sub-missing.result ≡ 5 - length w = search rules in
    let header : c.as_slice.result.now ≡ front w c.args.bytes.now =
    front_is w c.take_waiting-first.result.items
    c.split_at.result.0.now
    c.args.bytes.now c.as_slice.result.now c.saturating_sub-missing.result (search rules)
    (search rules) (search rules)
    count in
    let again : c.as_slice-then-begins_tls.result.now ≡ front w c.args.bytes.now = front_is w
    c.take_waiting-first.result.items
    c.split_at.result.0.now c.args.bytes.now c.as_slice-then-begins_tls.result.now
    c.saturating_sub-missing.result
    (search rules)
    (search rules) (search rules) count in
    let back : c.split_at.result.1.now ≡ drop (5 - length w) c.args.bytes.now =
    subst (λ n. c.split_at.result.1.now ≡ drop n c.args.bytes.now) count (search rules) in
    first_tls c.follow-then-begins_tls.result c.args.self.now c.take_waiting-first.new.self
    c.follow.new.self
    c.follow-then-begins_tls.new.self
    c.args.side c.args.bytes.now (search rules)
    (subst (λ x. begins_tls x ≡ true) header (search rules))
    c.take_waiting-first.ensures.taken
    (subst (λ t. IsNext t c.args.side (front w c.args.bytes.now) c.follow.new.self)
    c.begin_tls.ensures
    (subst (λ x. IsNext c.begin_tls.new.self c.args.side x c.follow.new.self) again
    c.in_ok-follow.ensures))
    (subst (λ x. OnOk c.follow-then-begins_tls.result (IsNext c.follow.new.self c.args.side x
    c.follow-then-begins_tls.new.self)) back
    c.follow-then-begins_tls.ensures)

pub returns : goal.returns
returns g c =
    let w : Bytes = (waiting c.args.self.now c.args.side).items in
    let count : c.saturating_sub-missing.result ≡ 5 - length w = search rules in
    let header : c.as_slice.result.now ≡ front w c.args.bytes.now =
    front_is w c.take_waiting-first.result.items
    c.split_at.result.0.now
    c.args.bytes.now c.as_slice.result.now c.saturating_sub-missing.result (search rules)
    (search rules) (search rules)
    count in
    let again : c.as_slice-2.result.now ≡ front w c.args.bytes.now =
    front_is w c.take_waiting-first.result.items
    c.split_at.result.0.now
    c.args.bytes.now c.as_slice-2.result.now c.saturating_sub-missing.result (search rules)
    (search rules) (search
    rules) count in
    subst (λ u. IsFirstRead c.args.self.now c.args.side w c.args.bytes.now u)
    (sym c.set_side_state.ensures)
    (first_other c.args.self.now c.take_waiting-first.new.self c.follow-2.new.self c.args.side
    c.args.bytes.now (search
    rules)
    (subst (λ x. begins_tls x ≡ false) header (search rules)) c.take_waiting-first.ensures.taken
    (subst (λ x. IsNext c.take_waiting-first.new.self c.args.side x c.follow-2.new.self) again
    c.in_ok-follow-2.ensures))

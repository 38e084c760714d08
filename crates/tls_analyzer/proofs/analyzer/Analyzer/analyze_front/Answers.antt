use Rattle.std.proofs.Common.{rules, OnOk, subst, sym}
use Rattle.tls_analyzer.specs.Analyzers.{IsFirstRead, IsNext, waiting}
use Rattle.tls_analyzer.proofs.FirstLemmas.{other_at_once, tls_at_once}
use Rattle.tls_analyzer.proofs.analyzer.Analyzer.analyze_front.Goals as goal

pub returns-then-begins_tls : goal.returns-then-begins_tls
returns-then-begins_tls g c =
    tls_at_once c.follow.result c.args.self.now c.follow.new.self c.args.side c.args.bytes.now
    c.split_at.result.0.now c.requires.none c.requires.enough (search rules) (search rules)
    (subst (λ t. OnOk c.follow.result (IsNext t c.args.side c.args.bytes.now c.follow.new.self))
    c.begin_tls.ensures c.follow.ensures)

pub returns : goal.returns
returns g c =
    subst
    (λ u. IsFirstRead c.args.self.now c.args.side (waiting c.args.self.now c.args.side).items
    c.args.bytes.now u)
    (sym c.set_side_state.ensures)
    (other_at_once c.args.self.now c.follow-2.new.self c.args.side c.args.bytes.now
    c.split_at.result.0.now c.requires.none c.requires.enough (search rules) (search rules)
    c.in_ok-follow.ensures)

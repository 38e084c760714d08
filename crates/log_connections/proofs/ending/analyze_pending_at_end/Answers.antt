use Rattle.std.proofs.Common.{◌≡◌, ◌-◌, ◌+◌, subst, arith}
use Rattle.connections.proofs.TableLemmas.{on_err}
use Rattle.connections.specs.declared.pending.TheConstants.{MAX_PENDING}
use Rattle.log_connections.specs.AtEnd.{AnalyzesAtEnd, AnalyzesOneAtEnd, at_first, behind_one, enough, no_more, one_then}
use Rattle.log_connections.proofs.ending.analyze_pending_at_end.Goals as goal

pub waiting-init : goal.waiting-init
waiting-init g c = record { analysis = λ final h. h; refused = λ final h. h }

pub waiting-preserved : goal.waiting-preserved
waiting-preserved g c =
    let one = subst (AnalyzesOneAtEnd c.waiting.connection c.analyze_one_at_end.new.connection)
    c.if-not-branch.false c.in_ok-analyze_one_at_end.ensures.analysis in
    let less : MAX_PENDING - c.waiting.count ≡ (MAX_PENDING - (c.waiting.count + 1)) + 1 =
    omega arith in record {
      analysis = λ final h. c.waiting.invariant.analysis final
          (one_then (MAX_PENDING - c.waiting.count) (MAX_PENDING - (c.waiting.count + 1))
          c.waiting.connection c.analyze_one_at_end.new.connection final less one h);
      refused = λ final h. c.waiting.invariant.refused final
          (behind_one (MAX_PENDING - c.waiting.count) (MAX_PENDING - (c.waiting.count + 1))
          c.waiting.connection c.analyze_one_at_end.new.connection final less one h);
    }

pub returns-in_err-analyze_one_at_end-clause-refused : goal.returns-in_err-analyze_one_at_end-clause-refused
returns-in_err-analyze_one_at_end-clause-refused g c =
    on_err c.from_residual.result
    (c.waiting.invariant.refused c.analyze_one_at_end.new.connection
    (at_first (MAX_PENDING - c.waiting.count) c.waiting.connection
    c.analyze_one_at_end.new.connection c.in_err-analyze_one_at_end.ensures.refused))

pub returns-then-not-branch-clause-analysis : goal.returns-then-not-branch-clause-analysis
returns-then-not-branch-clause-analysis g c =
    c.waiting.invariant.analysis c.analyze_one_at_end.new.connection
    (no_more (MAX_PENDING - c.waiting.count) c.waiting.connection
    c.analyze_one_at_end.new.connection
    (subst (AnalyzesOneAtEnd c.waiting.connection c.analyze_one_at_end.new.connection)
    c.if-not-branch.true c.in_ok-analyze_one_at_end.ensures.analysis))

pub returns-clause-analysis : goal.returns-clause-analysis
returns-clause-analysis g c =
    let none : 0 ≡ MAX_PENDING - c.waiting.count = omega arith in
    c.waiting.invariant.analysis c.waiting.connection
    (subst (λ n. AnalyzesAtEnd n c.waiting.connection c.waiting.connection) none
    (enough c.waiting.connection))

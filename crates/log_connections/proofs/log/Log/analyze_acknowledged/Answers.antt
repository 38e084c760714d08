use Rattle.std.proofs.Common.{◌≡◌, ◌-◌, ◌+◌, refl, subst, arith, ◌∙◌}
use Rattle.connections.specs.Segment.{five_tuple_of}
use Rattle.connections.specs.declared.pending.TheConstants.{MAX_PENDING}
use Rattle.log_connections.specs.Log.{AnalyzesAcknowledged, AnalyzesOne, enough, no_more, one_then}
use Rattle.log_connections.proofs.OtherLemmas.{keeps_same, keeps_then}
use Rattle.log_connections.proofs.log.Log.analyze_acknowledged.Goals as goal

pub waiting-init : goal.waiting-init
waiting-init g c = record {
  analysis = λ final h. h;
  others = keeps_same (five_tuple_of c.args.segment.now) c.args.self.now.connections.live
      c.args.self.now.connections.live refl;
  accounted = λ h. h;
  memory = refl;
  kept = refl;
  arrivals = refl;
}

pub waiting-preserved : goal.waiting-preserved
waiting-preserved g c =
    let one = subst
    (AnalyzesOne c.args.segment.now c.waiting.self.connections
    c.analyze_one_acknowledged.new.self.connections) c.if-not-branch.false
    c.in_ok-analyze_one_acknowledged.ensures.analysis in
    let less : MAX_PENDING - c.waiting.count ≡ (MAX_PENDING - (c.waiting.count + 1)) + 1 =
    omega arith in record {
      analysis = λ final h. c.waiting.invariant.analysis final
          (one_then (MAX_PENDING - c.waiting.count) (MAX_PENDING - (c.waiting.count + 1))
          c.waiting.self.connections c.analyze_one_acknowledged.new.self.connections final less one h);
      others = keeps_then (five_tuple_of c.args.segment.now) c.args.self.now.connections.live
          c.waiting.self.connections.live c.analyze_one_acknowledged.new.self.connections.live
          c.waiting.invariant.others c.analyze_one_acknowledged.ensures.others;
      accounted = λ h. c.analyze_one_acknowledged.ensures.accounted (c.waiting.invariant.accounted h);
      memory = c.analyze_one_acknowledged.ensures.memory ∙ c.waiting.invariant.memory;
      kept = c.analyze_one_acknowledged.ensures.kept ∙ c.waiting.invariant.kept;
      arrivals = c.analyze_one_acknowledged.ensures.arrivals ∙ c.waiting.invariant.arrivals;
    }

pub returns-in_err-analyze_one_acknowledged-clause-others : goal.returns-in_err-analyze_one_acknowledged-clause-others
returns-in_err-analyze_one_acknowledged-clause-others g c =
    keeps_then (five_tuple_of c.args.segment.now) c.args.self.now.connections.live
    c.waiting.self.connections.live c.analyze_one_acknowledged.new.self.connections.live
    c.waiting.invariant.others c.analyze_one_acknowledged.ensures.others

pub returns-then-not-branch-clause-analysis : goal.returns-then-not-branch-clause-analysis
returns-then-not-branch-clause-analysis g c =
    c.waiting.invariant.analysis c.analyze_one_acknowledged.new.self.connections
    (no_more (MAX_PENDING - c.waiting.count) c.waiting.self.connections
    c.analyze_one_acknowledged.new.self.connections
    (subst
    (AnalyzesOne c.args.segment.now c.waiting.self.connections
    c.analyze_one_acknowledged.new.self.connections) c.if-not-branch.true
    c.in_ok-analyze_one_acknowledged.ensures.analysis))

pub returns-then-not-branch-clause-others : goal.returns-then-not-branch-clause-others
returns-then-not-branch-clause-others g c =
    keeps_then (five_tuple_of c.args.segment.now) c.args.self.now.connections.live
    c.waiting.self.connections.live c.analyze_one_acknowledged.new.self.connections.live
    c.waiting.invariant.others c.analyze_one_acknowledged.ensures.others

pub returns-clause-analysis : goal.returns-clause-analysis
returns-clause-analysis g c =
    let none : 0 ≡ MAX_PENDING - c.waiting.count = omega arith in
    c.waiting.invariant.analysis c.waiting.self.connections
    (subst
    (λ n. AnalyzesAcknowledged c.args.segment.now n c.waiting.self.connections
    c.waiting.self.connections) none (enough c.waiting.self.connections))

pub returns-in_err-analyze_one_acknowledged-clause-accounted : goal.returns-in_err-analyze_one_acknowledged-clause-accounted
returns-in_err-analyze_one_acknowledged-clause-accounted g c =
    λ h. c.analyze_one_acknowledged.ensures.accounted (c.waiting.invariant.accounted h)

pub returns-then-not-branch-clause-accounted : goal.returns-then-not-branch-clause-accounted
returns-then-not-branch-clause-accounted g c =
    λ h. c.analyze_one_acknowledged.ensures.accounted (c.waiting.invariant.accounted h)

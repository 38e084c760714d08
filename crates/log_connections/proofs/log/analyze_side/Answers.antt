use Rattle.std.proofs.Common.{◌≡◌, sym, ◌∙◌, ap, refl, true, false}
use Rattle.connections.specs.Segment.{has_data}
use Rattle.log_connections.specs.Analysis.{counting}
use Rattle.log_connections.proofs.log.analyze_side.Goals as goal

pub returns-then-has_data : goal.returns-then-has_data
returns-then-has_data g c =
    let is : true ≡ has_data c.args.segment.now = sym c.if-has_data.true ∙ c.has_data.ensures in
    record {
      mid = c.analyze_next.new.stream;
      between = c.analyze_next.new.analysis;
      receives = c.in_ok-analyze_next.ensures;
      passes = rw (← is) c.pass.ensures.passing;
      counts =
          rw (← is)
          (c.count_records.ensures
          ∙ ap (λ b. counting c.args.side b c.analyze_next.new.analysis) c.pass.ensures.bytes);
    }

pub returns-else-has_data : goal.returns-else-has_data
returns-else-has_data g c =
    let is : false ≡ has_data c.args.segment.now = sym c.if-has_data.false ∙ c.has_data.ensures in
    record {
      mid = c.analyze_next.new.stream;
      between = c.analyze_next.new.analysis;
      receives = c.in_ok-analyze_next.ensures;
      passes = rw (← is) refl;
      counts = rw (← is) refl;
    }

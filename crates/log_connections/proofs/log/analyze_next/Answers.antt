use Rattle.std.proofs.Common.{sym, ◌∙◌, subst}
use Rattle.connections.specs.Stream.{is_cut_short}
use Rattle.log_connections.specs.Analysis.{AnalyzesStream}
use Rattle.log_connections.specs.Analysis.AnalyzesNext.{around_urgent}
use Rattle.log_connections.proofs.log.analyze_next.Goals as goal

pub returns-in_ok-analyze_stream-2 : goal.returns-in_ok-analyze_stream-2
returns-in_ok-analyze_stream-2 g c =
    let again = c.analyze_stream-then-pass_urgent.new in
    around_urgent c.analyze_stream.new.stream c.analyze_stream.new.self
    c.in_ok-analyze_stream.ensures.analysis (sym c.pass_urgent.ensures.next ∙ c.if-pass_urgent.true)
    (subst
    (λ m. AnalyzesStream c.args.side c.args.is_opened (is_cut_short m m.reading) m again.stream
    c.analyze_stream.new.self again.self)
    c.pass_urgent.ensures.passed c.in_ok-analyze_stream-2.ensures.analysis)

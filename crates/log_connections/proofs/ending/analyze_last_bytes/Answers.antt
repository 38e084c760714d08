use Rattle.std.proofs.Common.{◌≡◌, ap, false, refl, subst, true}
use Rattle.std.proofs.lemmas.Result.{IfOk-weaker}
use Rattle.connections.proofs.TableLemmas.{on_err}
use Rattle.connections.specs.Connection.{has_opening}
use Rattle.connections.specs.declared.connection.Side.TheVariants.{Originator}
use Rattle.log_connections.proofs.PacketLemmas.{both_err}
use Rattle.log_connections.specs.Analysis.{AnalyzesStream, IsCutIn, is_done}
use Rattle.log_connections.specs.Sink.{at_originator, at_responder}
use Rattle.log_connections.proofs.ending.analyze_last_bytes.Goals as goal

pub returns-in_err-analyze_stream-clause-cut : goal.returns-in_err-analyze_stream-clause-cut
returns-in_err-analyze_stream-clause-cut g c =
    on_err c.from_residual.result
    (at_originator c.analyze_stream.new.self
    (subst (λ a. is_done Originator c.args.connection.now.from_originator a ≡ false)
    c.end_dialogue.ensures c.in_err-analyze_stream.ensures.undone)
    (subst (λ a. IsCutIn a c.analyze_stream.new.self) c.end_dialogue.ensures
    c.in_err-analyze_stream.ensures.cut.1)
    (ap (λ t. record c.args.connection.now {
      from_originator = t;
      attachment = c.analyze_stream.new.self;
    }) c.in_err-analyze_stream.ensures.cut.0))

pub returns-clause-analysis : goal.returns-clause-analysis
returns-clause-analysis g c =
    let first :
    AnalyzesStream Originator (has_opening c.args.connection.now) true
    c.args.connection.now.from_originator c.analyze_stream.new.stream c.end_dialogue.new.self
    c.analyze_stream.new.self =
    rw (← c.has_opening-is_opened.ensures) c.in_ok-analyze_stream.ensures.analysis in
    IfOk-weaker c.analyze_stream-2.result _ _
    (λ _ analysis. record {
      between = c.analyze_stream.new.self;
      originator =
          subst
          (λ a. AnalyzesStream Originator (has_opening c.args.connection.now) true
          c.args.connection.now.from_originator c.analyze_stream.new.stream a
          c.analyze_stream.new.self)
          c.end_dialogue.ensures first;
      responder = rw (← c.has_opening-is_opened.ensures) analysis;
      same = refl;
    }) c.analyze_stream-2.ensures.analysis

pub returns-clause-cut : goal.returns-clause-cut
returns-clause-cut g c =
    let first :
    AnalyzesStream Originator (has_opening c.args.connection.now) true
    c.args.connection.now.from_originator c.analyze_stream.new.stream c.end_dialogue.new.self
    c.analyze_stream.new.self =
    rw (← c.has_opening-is_opened.ensures) c.in_ok-analyze_stream.ensures.analysis in
    both_err c.analyze_stream-2.result _ _ _
    (λ cut undone. at_responder c.analyze_stream.new.self c.analyze_stream-2.new.self
    (subst
    (λ a. AnalyzesStream Originator (has_opening c.args.connection.now) true
    c.args.connection.now.from_originator c.analyze_stream.new.stream a c.analyze_stream.new.self)
    c.end_dialogue.ensures first) undone cut.1
    (ap (λ t. record c.args.connection.now {
      from_originator = c.analyze_stream.new.stream;
      from_responder = t;
      attachment = c.analyze_stream-2.new.self;
    }) cut.0))
    c.analyze_stream-2.ensures.cut c.analyze_stream-2.ensures.undone

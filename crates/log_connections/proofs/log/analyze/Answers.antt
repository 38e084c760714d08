use Rattle.std.proofs.lemmas.Result.{IfOk-weaker}
use Rattle.connections.specs.Connection.{side_of}
use Rattle.log_connections.proofs.FollowLemmas.{analyzed_behind, side_prepared}
use Rattle.log_connections.specs.Analysis.{IsPrepared}
use Rattle.log_connections.proofs.log.analyze.Goals as goal

pub returns-clause-prepared : goal.returns-clause-prepared
returns-clause-prepared g c =
    IfOk-weaker c.analyze_sender.result _ _
    (λ _ analyzes. analyzed_behind (IsPrepared c.args.tunnels.now c.args.kept) c.args.segment.now
    c.args.connection.now c.follow_front.new.connection c.analyze_sender.new.connection
    c.in_ok-follow_front.ensures.front analyzes)
    c.analyze_sender.ensures.analysis

pub returns-clause-analysis : goal.returns-clause-analysis
returns-clause-analysis g c =
    IfOk-weaker c.analyze_sender.result _ _
    (λ _ analyzes. side_prepared c.args.tunnels.now c.args.kept c.args.segment.now
    (side_of c.args.connection.now c.args.segment.now.source) c.args.connection.now
    c.analyze_sender.new.connection
    (analyzed_behind (IsPrepared c.args.tunnels.now c.args.kept) c.args.segment.now
    c.args.connection.now c.follow_front.new.connection c.analyze_sender.new.connection
    c.in_ok-follow_front.ensures.front analyzes))
    c.analyze_sender.ensures.analysis

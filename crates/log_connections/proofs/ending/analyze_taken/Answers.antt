use Rattle.std.proofs.lemmas.Result.{IfOk-weaker}
use Rattle.connections.proofs.TableLemmas.{on_err}
use Rattle.log_connections.proofs.EndingLemmas.{changed_then}
use Rattle.log_connections.proofs.FollowLemmas.{analyzed_behind}
use Rattle.log_connections.specs.AtEnd.{left_out, unanalyzed}
use Rattle.log_connections.specs.Sides.{IsOnItsOwn}
use Rattle.log_connections.proofs.ending.analyze_taken.Goals as goal

pub returns-in_err-accept_pending-clause-refused : goal.returns-in_err-accept_pending-clause-refused
returns-in_err-accept_pending-clause-refused g c =
    on_err c.from_residual.result (left_out c.in_err-accept_pending.ensures.left_out)

pub returns-in_err-follow_front-clause-refused : goal.returns-in_err-follow_front-clause-refused
returns-in_err-follow_front-clause-refused g c =
    on_err c.from_residual-in_err-follow_front.result
    (unanalyzed c.accept_pending.new.self c.in_ok-accept_pending.ensures.taken
    c.follow_front.ensures.same)

pub returns-clause-analysis : goal.returns-clause-analysis
returns-clause-analysis g c =
    IfOk-weaker c.analyze_sender_at_end.result _ _
    (λ _ analyzes. record {
      put = c.accept_pending.new.self;
      segment = c.segment-segment.result;
      header = c.segment-segment.ensures.header;
      payload = c.segment-segment.ensures.data;
      accepts = c.in_ok-accept_pending.ensures.taken;
      receives = analyzed_behind IsOnItsOwn c.segment-segment.result c.accept_pending.new.self
          c.follow_front.new.connection c.analyze_sender_at_end.new.connection
          c.in_ok-follow_front.ensures.front analyzes;
    }) c.analyze_sender_at_end.ensures.analysis

pub returns-clause-refused : goal.returns-clause-refused
returns-clause-refused g c =
    on_err c.analyze_sender_at_end.result
    (unanalyzed c.accept_pending.new.self c.in_ok-accept_pending.ensures.taken
    (changed_then c.accept_pending.new.self c.follow_front.new.connection
    c.analyze_sender_at_end.new.connection c.follow_front.ensures.same
    c.analyze_sender_at_end.ensures.same))

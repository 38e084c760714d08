use Rattle.std.proofs.Common.{◌∙◌, subst, sym}
use Rattle.std.proofs.lemmas.Result.{IfOk-weaker}
use Rattle.connections.specs.Connection.{side_of}
use Rattle.connections.specs.Segment.{has_data}
use Rattle.log_connections.proofs.FollowLemmas.{front_when}
use Rattle.log_connections.specs.Analysis.{is_front_in}
use Rattle.log_connections.specs.Sides.{FollowsFront}
use Rattle.log_connections.proofs.following.follow_front.Goals as goal

pub returns-then-is_in_front-clause-front : goal.returns-then-is_in_front-clause-front
returns-then-is_in_front-clause-front g c =
    IfOk-weaker c.follow_in_front.result _ _
    (λ _ front. front_when (has_data c.args.segment.now)
    (is_front_in c.args.connection.now.attachment.transport) c.args.segment.now
    (side_of c.args.connection.now c.args.segment.now.source) c.args.connection.now
    c.follow_in_front.new.connection (sym c.has_data.ensures ∙ c.if-has_data.true)
    (sym c.is_in_front.ensures ∙ c.if-is_in_front.true)
    (subst
    (λ side. FollowsFront c.args.segment.now side c.args.connection.now
    c.follow_in_front.new.connection) c.side_of-side.ensures front)) c.follow_in_front.ensures.front

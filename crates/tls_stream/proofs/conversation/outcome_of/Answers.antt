use Rattle.std.proofs.Common.{sym, subst}
use Rattle.tls_stream.specs.Conversations.{IsOutcomeOf, views}
use Rattle.tls_stream.proofs.ConversationLemmas.{all_followed, piece_followed}
use Rattle.tls_stream.proofs.conversation.outcome_of.Goals as goal

pub loop-side-preserved : goal.loop-side-preserved
loop-side-preserved c =
    piece_followed c.args.limit c.args.pieces.now c.loop-side.side-index _ c.loop-side.conversation
    c.follow_piece.new.self
    c.loop-side-test.true c.loop-side.invariant c.in_ok-follow_piece.ensures.followed

pub returns : goal.returns
returns c =
    subst (λ o. IsOutcomeOf o c.args.limit (views c.args.pieces.now)) (sym c.outcome.ensures)
    (all_followed c.args.limit c.args.pieces.now c.loop-side.side-index c.loop-side.conversation
    c.loop-side-test.false
    c.loop-side.invariant)

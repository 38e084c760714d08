use Rattle.std.proofs.Common.{subst}
use Rattle.tls_stream.specs.Frames.{elements}
use Rattle.tls_stream.specs.Taken.{AreTaken}
use Rattle.tls_stream.proofs.TakenLemmas.{at_end_all, at_fault, begun, one_piece}
use Rattle.tls_stream.proofs.taken.join_pieces.Goals as goal

pub loop-piece-init : goal.loop-piece-init
loop-piece-init c =
    let b = begun c.new-taken.result.items c.with_limit-direction.result c.args.limit
    c.new-taken.ensures.items
    c.with_limit-direction.ensures in
    record { sent = b.0; none = b.1 }

pub loop-piece-preserved : goal.loop-piece-preserved
loop-piece-preserved c =
    let taken = subst (λ t. AreTaken (elements c.loop-piece.taken.items) c.feed.new.self
    (elements c.take_messages.new.taken.items) c.take_messages.new.direction t)
    c.if-branch.false c.in_ok-take_messages.ensures in
    record {
      sent = one_piece c.args.pieces.now c.loop-piece.piece-index _
          (elements c.loop-piece.taken.items)
          (elements c.take_messages.new.taken.items) c.loop-piece.direction c.feed.new.self
          c.take_messages.new.direction c.args.limit
          c.loop-piece-test.true c.loop-piece.invariant.sent c.in_ok-feed.ensures.held taken.same;
      none = taken.over;
    }

pub returns : goal.returns
returns c =
    at_end_all c.args.pieces.now c.loop-piece.piece-index
    (elements c.loop-piece.taken.items) c.loop-piece.direction c.args.limit c.loop-piece-test.false
    c.loop-piece.invariant.sent c.loop-piece.invariant.none

pub returns-then-branch : goal.returns-then-branch
returns-then-branch c =
    at_fault c.args.pieces.now c.loop-piece.piece-index _ (elements c.loop-piece.taken.items)
    (elements c.take_messages.new.taken.items)
    c.loop-piece.direction c.feed.new.self c.take_messages.new.direction c.args.limit
    c.loop-piece-test.true c.loop-piece.invariant.sent c.in_ok-feed.ensures.held
    (subst (λ t. AreTaken (elements c.loop-piece.taken.items) c.feed.new.self
    (elements c.take_messages.new.taken.items) c.take_messages.new.direction t) c.if-branch.true
    c.in_ok-take_messages.ensures)

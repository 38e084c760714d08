use Rattle.std.proofs.Common.{Err, ◌∙◌, ap, subst, sym}
use Rattle.tls_stream.specs.Frames.{IsSplit, elements, joined, up_to}
use Rattle.tls_stream.proofs.PieceLemmas.{cut_none, cut_next, cut_large}
use Rattle.tls_stream.proofs.split.split_frames.Goals as goal

pub loop-piece-init : goal.loop-piece-init
loop-piece-init g c = let none = cut_none (up_to g.F.Frame.kind g.row.LIMIT) in
    (ap elements c.new-taken.ensures.items ∙ none.0, c.new-stream.ensures ∙ none.1)

pub returns-in-Err-TooLarge : goal.returns-in-Err-TooLarge
returns-in-Err-TooLarge g c =
    subst (λ held. IsSplit (up_to g.F.Frame.kind g.row.LIMIT) (joined c.args.pieces.now)
    (elements c.loop-piece.taken.items) held) (sym c.in-Err-TooLarge.ensures.held)
    (cut_large (up_to g.F.Frame.kind g.row.LIMIT) g.met.F.Frame.takes c.args.pieces.now
    c.loop-piece.piece-index
    (elements c.loop-piece.taken.items) c.loop-piece.stream
    (c.feed.ensures.too_large.0 (c.in-Err-TooLarge.is ∙ ap Err c.in-Err-TooLarge.field-0-is))
    c.loop-piece.invariant)

pub loop-piece-preserved : goal.loop-piece-preserved
loop-piece-preserved g c =
    cut_next (up_to g.F.Frame.kind g.row.LIMIT) g.met.F.Frame.takes c.args.pieces.now
    c.loop-piece.piece-index _
    (elements c.loop-piece.taken.items)
    (elements c.take_frames.new.taken.items) c.loop-piece.stream c.feed.new.self
    c.take_frames.new.stream
    c.loop-piece-test.true c.loop-piece.invariant c.in-Ok.ensures.held
    c.in_ok-take_frames-in-Ok.ensures

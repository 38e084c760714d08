use Rattle.std.proofs.Common.{◌≡◌, take}
use Rattle.tls_stream.specs.Frames.{elements, joined, left, frames, up_to}
use Rattle.tls_stream.proofs.split.split_frames.Given as goal

abbrev pub invariant-loop-piece : goal.invariant-loop-piece
invariant-loop-piece g l =
    let f = up_to g.F.Frame.kind g.row.LIMIT in
    (elements l.taken.items ≡ frames f (joined (take l.piece-index l.pieces)))
    × (l.stream ≡ left f (joined (take l.piece-index l.pieces)))

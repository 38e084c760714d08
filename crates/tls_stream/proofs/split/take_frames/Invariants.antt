use Rattle.std.proofs.Common.{◌≡◌, ◌++◌, length}
use Rattle.tls_stream.specs.Frames.{elements, frames, left, up_to}
use Rattle.tls_stream.proofs.split.take_frames.Given as goal

abbrev pub invariant-loop-bytes : goal.invariant-loop-bytes
invariant-loop-bytes g l =
    let f = up_to g.F.Frame.kind g.row.LIMIT in
    (elements l.taken.items ++ frames f l.stream ≡ elements l.initial.taken.items ++ frames f
    l.initial.stream)
    × (left f l.stream ≡ left f l.initial.stream)

abbrev pub decreases-loop-bytes : goal.decreases-loop-bytes
decreases-loop-bytes g l = length l.stream

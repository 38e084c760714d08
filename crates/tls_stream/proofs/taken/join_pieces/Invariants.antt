-- the messages taken and those still to come are those of the pieces so far and of what follows
use Rattle.std.proofs.Common.{◌≡◌, [], take}
use Rattle.tls_stream.specs.Frames.{elements, joined}
use Rattle.tls_stream.specs.Events.{events}
use Rattle.tls_stream.proofs.TakenLemmas.{IsSent}
use Rattle.tls_stream.proofs.taken.join_pieces.Given as goal

abbrev pub invariant-loop-piece : goal.invariant-loop-piece
invariant-loop-piece l = record {
  sent : IsSent (elements l.taken.items) l.direction l.limit (joined (take l.piece-index l.pieces));
  none : events l.direction ≡ [];
}

use Rattle.std.proofs.Common.{◌≡◌, drop}
use Rattle.connections.specs.Waiting.{with_bytes_of}
use Rattle.connections.proofs.pending.bytes_of.Given as goal

abbrev pub invariant-loop-kept : goal.invariant-loop-kept
invariant-loop-kept l =
    with_bytes_of (drop l.kept-index l.list) l.bytes ≡ with_bytes_of l.list 0

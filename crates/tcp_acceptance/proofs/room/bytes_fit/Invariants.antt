use Rattle.std.proofs.Common.{◌≡◌, ◌+◌, drop}
use Rattle.tcp_acceptance.specs.Room.{bytes_in}
use Rattle.tcp_acceptance.proofs.room.bytes_fit.Given as goal

-- What is left is the space without the bytes of those before.
abbrev pub invariant-loop-kept : goal.invariant-loop-kept
invariant-loop-kept l =
    bytes_in l.list + l.left ≡ 65536 + bytes_in (drop l.kept-index l.list)

use Rattle.std.proofs.Common.{◌≡◌, ◌+◌, drop}
use Rattle.tcp_acceptance.specs.Room.{bytes_in}
use Rattle.tcp_acceptance.proofs.room.count_bytes.Given as goal

abbrev pub invariant-loop-kept : goal.invariant-loop-kept
invariant-loop-kept l = l.bytes + bytes_in (drop l.kept-index l.list) ≡ bytes_in l.list

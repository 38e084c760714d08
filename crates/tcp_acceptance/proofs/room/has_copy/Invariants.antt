use Rattle.std.proofs.Common.{◌≡◌, drop}
use Rattle.tcp_acceptance.specs.Doubtful.{doubtful_of, is_copy_of}
use Rattle.tcp_acceptance.specs.Room.{has_any}
use Rattle.tcp_acceptance.proofs.room.has_copy.Given as goal

-- The remaining ones give the same result as all.
abbrev pub invariant-loop-kept : goal.invariant-loop-kept
invariant-loop-kept l =
    has_any (is_copy_of (doubtful_of l.arrived)) (drop l.kept-index l.list)
    ≡ has_any (is_copy_of (doubtful_of l.arrived)) l.list

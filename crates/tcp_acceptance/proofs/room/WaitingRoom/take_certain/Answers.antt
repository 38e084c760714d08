use Rattle.std.proofs.Common.{sym, subst}
use Rattle.tcp_acceptance.specs.Room.{IsWithin}
use Rattle.tcp_acceptance.proofs.BoundLemmas.{within_removed}
use Rattle.tcp_acceptance.proofs.room.WaitingRoom.take_certain.Goals as goal

pub invariant_of-self : goal.invariant_of-self
invariant_of-self c =
    subst IsWithin (sym c.remove_at.ensures.left)
    (within_removed c.self.inside.kept.items c.in_ok-place.place c.self.invariant)

use Rattle.std.proofs.Common.{sym, subst, Some}
use Rattle.tcp_acceptance.specs.Room.{IsWithin}
use Rattle.tcp_acceptance.proofs.TakeLemmas.{within_left_at}
use Rattle.tcp_acceptance.proofs.room.WaitingRoom.take_acknowledged.Goals as goal

pub invariant_of-self-2 : goal.invariant_of-self-2
invariant_of-self-2 c =
    subst IsWithin (sym c.in_ok-take_part.ensures.left)
    (within_left_at c.args.ack (Some c.in-Some.place) c.self.inside.kept.items c.self.invariant)

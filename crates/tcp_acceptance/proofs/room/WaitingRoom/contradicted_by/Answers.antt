use Rattle.std.proofs.Common.{sym, subst}
use Rattle.tcp_acceptance.specs.Known.{is_contradicted}
use Rattle.tcp_acceptance.specs.Room.{IsWithin}
use Rattle.tcp_acceptance.proofs.BoundLemmas.{within_without}
use Rattle.tcp_acceptance.proofs.room.WaitingRoom.contradicted_by.Goals as goal

pub invariant_of-self : goal.invariant_of-self
invariant_of-self c =
    subst IsWithin (sym c.remove_contradicted.ensures)
    (within_without (is_contradicted c.args.certain.now) c.self.inside.kept.items c.self.invariant)

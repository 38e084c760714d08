use Rattle.std.proofs.Common.{sym, subst}
use Rattle.tcp_acceptance.specs.Room.{IsWithin}
use Rattle.tcp_acceptance.proofs.BoundLemmas.{within_opened}
use Rattle.tcp_acceptance.proofs.room.WaitingRoom.open.Goals as goal

pub invariant_of-self : goal.invariant_of-self
invariant_of-self c =
    subst IsWithin (sym c.judge_each.ensures)
    (within_opened c.args.heard.now c.self.inside.kept.items c.self.invariant)

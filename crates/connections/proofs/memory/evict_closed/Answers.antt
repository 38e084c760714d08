use Rattle.std.proofs.Common.{length, refl, ◌-◌, ◌∙◌, arith}
use Rattle.connections.proofs.MemoryLemmas.{front_of_front}
use Rattle.connections.proofs.memory.evict_closed.Goals as goal

pub loop-closed-init : goal.loop-closed-init
loop-closed-init c = (refl, refl)

pub loop-closed-preserved : goal.loop-closed-preserved
loop-closed-preserved c =
    rw c.pop_lru.ensures.entries (
      front_of_front _ (length c.loop-closed.closed.entries - 1) c.loop-closed.closed.entries
          (omega arith)
          ∙ c.loop-closed.invariant.0,
      c.loop-closed.invariant.1,
    )

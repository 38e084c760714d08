use Rattle.std.proofs.Common.{refl}
use Rattle.connections.specs.Table.{IsOver}
use Rattle.connections.specs.Table.IsForgotten.{none}
use Rattle.connections.proofs.TableLemmas.{last_forgotten}
use Rattle.connections.proofs.table.forget_idle.Goals as goal

pub loop-last_time-init : goal.loop-last_time-init
loop-last_time-init c = (none, refl)

pub loop-last_time-preserved : goal.loop-last_time-preserved
loop-last_time-preserved c =
    let over : IsOver c.args.time c.loop-last_time.closed.entries c.in-Some.last_time.now =
    rw c.len.ensures.len at (c.is_over.ensures.over c.if-not-is_over.false) in
    rw c.pop_lru.ensures.entries (
      last_forgotten c.args.time c.args.closed.now.entries c.loop-last_time.closed.entries
          c.in-Some.field-0-0.now c.in-Some.last_time.now c.loop-last_time.invariant.0
          c.in-Some.ensures over,
      c.loop-last_time.invariant.1,
    )

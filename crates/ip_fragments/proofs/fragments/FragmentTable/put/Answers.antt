use Rattle.std.proofs.Common.{◌+◌, Some, ap, sym, subst, ◌∙◌}
use Rattle.ip_fragments.specs.Table.{Becomes, ReceivesAt}
use Rattle.ip_fragments.proofs.TableLemmas.{missing_put, over_becomes, room_received, waits_becomes, weight_received}
use Rattle.ip_fragments.proofs.fragments.FragmentTable.put.Goals as goal
use Rattle.ip_fragments.proofs.fragments.FragmentTable.put.Goals.{then-not-is_waiting, else-not-is_waiting}

pub returns-in_default-clause-becomes : goal.returns-in_default-clause-becomes
returns-in_default-clause-becomes c = rw (← c.self.view_is)
    (missing_put c.args.time c.args.key c.args.fragment.now c.in_ok-received.field-0
    c.begin.result _ _ _ c.in_default.is c.in_ok-received.ensures.receives
    c.begin.ensures.begins)

pub invariant_of-self-then-not-is_waiting : goal.invariant_of-self-then-not-is_waiting
invariant_of-self-then-not-is_waiting c =
    let r : ReceivesAt c.args.key c.args.fragment.now (Some c.in-Some.received)
    c.self.inside.waiting.entries c.receive_at.new.table.entries =
    subst (λ x. ReceivesAt c.args.key c.args.fragment.now x c.self.inside.waiting.entries
    c.receive_at.new.table.entries) c.in-Some.is c.in_ok-received.ensures.receives in
    let more = weight_received c.args.time c.args.key c.args.fragment.now c.in-Some.received
    c.self.inside.waiting.entries c.receive_at.new.table.entries r in
    let held = c.self.invariant.1 in (
      c.in_ok-received.ensures.cap ∙ c.self.invariant.0,
      ap (λ n. n + c.in-Some.received.added) held ∙ sym more,
      room_received c.args.time c.args.key c.args.fragment.now c.in-Some.received
          c.self.inside.waiting.entries c.receive_at.new.table.entries c.self.inside.held r held
          (rw (← c.self.view_is) at c.requires.room),
    )

pub invariant_of-self-else-not-is_waiting : goal.invariant_of-self-else-not-is_waiting
invariant_of-self-else-not-is_waiting c =
    let r : ReceivesAt c.args.key c.args.fragment.now (Some c.in-Some.received)
    c.self.inside.waiting.entries c.receive_at.new.table.entries =
    subst (λ x. ReceivesAt c.args.key c.args.fragment.now x c.self.inside.waiting.entries
    c.receive_at.new.table.entries) c.in-Some.is c.in_ok-received.ensures.receives in
    let more = weight_received c.args.time c.args.key c.args.fragment.now c.in-Some.received
    c.self.inside.waiting.entries c.receive_at.new.table.entries r in
    let held = c.self.invariant.1 in (
      c.in_ok-received.ensures.cap ∙ c.self.invariant.0,
      ap (λ n. n + c.in-Some.received.added) held ∙ sym more,
      room_received c.args.time c.args.key c.args.fragment.now c.in-Some.received
          c.self.inside.waiting.entries c.receive_at.new.table.entries c.self.inside.held r held
          (rw (← c.self.view_is) at c.requires.room),
    )

pub returns-clause-becomes : goal.returns-clause-becomes
returns-clause-becomes c = rw (← c.self.view_is) (
    let r : ReceivesAt c.args.key c.args.fragment.now (Some c.in-Some.received)
    c.self.inside.waiting.entries c.receive_at.new.table.entries =
    subst (λ x. ReceivesAt c.args.key c.args.fragment.now x c.self.inside.waiting.entries
    c.receive_at.new.table.entries) c.in-Some.is c.in_ok-received.ensures.receives in
    elim c.if-not-is_waiting.branch [
      | then-not-is_waiting w ↦ over_becomes c.args.time c.args.key c.args.fragment.now
          c.in-Some.received c.self.inside.waiting.entries c.receive_at.new.table.entries
          c.if-not-is_waiting.self.waiting r
          (sym c.is_waiting.ensures ∙ w.if-not-is_waiting.true)
          (ap (λ s. s.waiting) (w.self-is ∙ w.drop_at.ensures))
      | else-not-is_waiting w ↦ subst
          (λ u. Becomes c.args.time c.args.key c.args.fragment.now c.in-Some.received.outcome
          c.self.inside.waiting.entries u)
          (sym (ap (λ s. s.waiting) w.self-is))
          (waits_becomes c.args.time c.args.key c.args.fragment.now c.in-Some.received
          c.self.inside.waiting.entries c.receive_at.new.table.entries r
          (sym c.is_waiting.ensures ∙ w.if-not-is_waiting.false))
    ])

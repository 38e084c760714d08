use Rattle.std.proofs.Common.{◌≡◌, ◌≤◌, ◌+◌, ◌-◌, ◌∙◌, length, take, drop, ap, arith, subst, sym}
use Rattle.tls_stream.specs.Held.{Held, joined}
use Rattle.tls_stream.proofs.HeldLemmas.{
  both,
  joined_part,
  joined_unread,
  pushed_joined,
  pushed_unread,
  stays_part,
  stays_unread,
}
use Rattle.tls_stream.proofs.stream_buffer.StreamBuffer.join.Goals as goal

pub returns-then-self : goal.returns-then-self
returns-then-self c =
    let h = c.self.inside in
    both (stays_part h.bytes.items h.part h.part_end h.unread c.args.n c.if-self.true)
    (stays_unread h.bytes.items h.unread c.args.n)
    ∙ ap (λ (v : Held). joined v c.args.n) c.self.view_is

pub returns-then-open-n : goal.returns-then-open-n
returns-then-open-n c =
    let h = c.self.inside in
    let low : h.part ≤ h.part_end = omega (arith, c.self.invariant) in
    let mid : h.part_end ≤ h.unread = omega (arith, c.self.invariant) in
    let enough =
    subst (λ (v : Held). 5 + c.args.n ≤ length v.unread) (sym c.self.view_is) c.requires in
    let start = h.unread + 5 - (h.part_end - h.part) in
    let items = c.copy_within.ensures.items in
    both
    (ap (λ b. take (h.unread + 5 + c.args.n - start) (drop start b)) items
    ∙ pushed_joined h.bytes.items h.part h.part_end h.unread c.args.n low mid enough)
    (ap (drop (h.unread + 5 + c.args.n)) items
    ∙ pushed_unread h.bytes.items h.part h.part_end h.unread c.args.n low mid enough)
    ∙ ap (λ (v : Held). joined v c.args.n) c.self.view_is

pub returns : goal.returns
returns c =
    let h = c.self.inside in
    let enough =
    subst (λ (v : Held). 5 + c.args.n ≤ length v.unread) (sym c.self.view_is) c.requires in
    let items = c.copy_within-2.ensures.items in
    both
    (ap (λ b. take (h.part_end + c.args.n - h.part) (drop h.part b)) items
    ∙ joined_part h.bytes.items h.part h.part_end h.unread c.args.n
    (omega (arith, c.self.invariant))
    (omega (arith, c.self.invariant)) enough)
    (ap (drop (h.unread + 5 + c.args.n)) items
    ∙ joined_unread h.bytes.items h.part_end h.unread c.args.n
    (omega (arith, c.self.invariant)) enough)
    ∙ ap (λ (v : Held). joined v c.args.n) c.self.view_is

use Rattle.std.proofs.Common.{◌≡◌, ◌≤◌, ◌+◌, ◌-◌, length, take, drop, ap, arith, subst, sym}
use Rattle.tls_stream.specs.Held.{Held}
use Rattle.tls_stream.proofs.HeldLemmas.{part_taken}
use Rattle.tls_stream.proofs.stream_buffer.StreamBuffer.take_part.Goals as goal

pub returns : goal.returns
returns c =
    let h = c.self.inside in
    let few = subst (λ (v : Held). c.args.n ≤ length v.part) (sym c.self.view_is) c.requires in
    subst (λ (v : Held). ◌≡◌ {A = Held} (record {
      part =
          take (h.part_end - (h.part + c.args.n)) (drop (h.part + c.args.n) h.bytes.items);
      unread =
          drop h.unread h.bytes.items;
    }) (record { part = drop c.args.n v.part; unread = v.unread })) c.self.view_is
    (ap (λ x. record { part = x; unread = drop h.unread h.bytes.items })
    (part_taken h.bytes.items h.part h.part_end c.args.n (omega (arith, c.self.invariant)) few
    (omega (arith, c.self.invariant))))

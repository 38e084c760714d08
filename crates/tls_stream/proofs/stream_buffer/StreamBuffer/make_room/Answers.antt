use Rattle.std.proofs.Common.{◌≡◌, ◌≤◌, ◌-◌, ◌∙◌, length, take, drop, vec_len, ap, arith}
use Rattle.std.specs.List.{copy_within}
use Rattle.std.proofs.lemmas.List.{length-drop}
use Rattle.tls_stream.proofs.HeldLemmas.{both, moved_part, moved_unread, room}
use Rattle.tls_stream.proofs.stream_buffer.StreamBuffer.make_room.Goals as goal

pub returns-then-held-len : goal.returns-then-held-len
returns-then-held-len c =
    let h = c.self.inside in
    let b = h.bytes.items in
    let low : h.part ≤ h.part_end = omega (arith, c.self.invariant) in
    let mid : h.part_end ≤ h.unread = omega (arith, c.self.invariant) in
    let high : h.unread ≤ length b = omega (arith, c.self.invariant) in
    let few : h.part_end - h.part ≤ length (drop h.part b) = omega (arith, length-drop h.part b) in
    let size : vec_len c.copy_within.new.self ≡ length c.copy_within.new.self.items = omega arith in
    let all = room b c.copy_within.new.self.items c.copy_within-then-held-len.new.self.items
    c.truncate.new.self.items
    h.part h.part_end h.unread c.len.result
    low mid high (omega arith) c.copy_within.ensures.items
    (c.copy_within-then-held-len.ensures.items
    ∙ ap (λ n. copy_within c.copy_within.new.self.items h.unread n
    (h.part_end - h.part)) size) c.truncate.ensures.items in
    let none : h.part_end - h.part - 0 ≡ h.part_end - h.part = omega arith in
    both (ap (λ k. take k (drop 0 c.truncate.new.self.items)) none
    ∙ moved_part b c.truncate.new.self.items h.part (h.part_end - h.part) h.unread few all)
    (moved_unread b c.truncate.new.self.items h.part (h.part_end - h.part) h.unread few all)
    ∙ c.self.view_is

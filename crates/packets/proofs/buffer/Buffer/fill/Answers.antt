use Rattle.std.proofs.Common.{◌≡◌, ◌+◌, ◌-◌, ◌≤◌, take, drop, length, ◌∙◌, ap, arith, ◌++◌}
use Rattle.std.proofs.lemmas.List.{length-take, length-drop}
use Rattle.packets.proofs.BufferLemmas.{read_behind, room_made}
use Rattle.packets.proofs.buffer.Buffer.fill.Goals as goal

pub returns-clause-ok : goal.returns-clause-ok
returns-clause-ok g c =
    let n = c.in_ok-n.n in
    let h = c.self.inside.end in
    let items = c.self.inside.bytes.items in
    let counted : c.len.result ≡ length items = c.len.ensures ∙ c.self.inside.bytes.ok.0 in
    let within : n ≤ length c.read.new.buf = c.in_ok-n.ensures.bound.0 in
    let whole : c.in-Some.whole ≡ h + 65536 = grind (arith, c.in-Some.ensures) in
    let len : length c.deref_mut.result.now ≡ c.max-len.result = c.deref_mut.ensures.len
    ∙ c.in_ok-resize.ensures.len in
    let most : length items ≤ c.max-len.result = grind (arith, c.max-len.ensures, counted) in
    let room : h + 65536 ≤ c.max-len.result = grind (arith, c.max-len.ensures, whole) in
    let read : 65536 ≤ length c.read.new.buf =
    grind (arith, c.read.auto.buf, length-take, length-drop, len, room) in
    let kept : take h c.deref_mut.result.now ≡ take h items =
    ap (take h) c.deref_mut.ensures.value
    ∙ room_made h c.max-len.result items _ c.resize.new.self.items c.self.invariant.1 most
    c.in_ok-resize.ensures.items in
    let put = take h c.deref_mut.result.now
    ++ (c.read.new.buf ++ drop (length c.deref_mut.result.now - h)
    (drop h c.deref_mut.result.now)) in
    record {
      bytes = take n c.read.new.buf;
      count = grind (arith, c.in_ok-n.ensures.bound.1);
      holds = read_behind c.self.inside.start h n c.resize.new.self.len
          (take h c.deref_mut.result.now) c.read.new.buf
          (drop (length c.deref_mut.result.now - h) (drop h c.deref_mut.result.now))
          (drop (length put) c.resize.new.self.items)
          (grind (arith, length-take, len, room)) within
          (grind (
            arith,
            c.in_ok-resize.ensures.len,
            c.read.auto.buf,
            length-take,
            length-drop,
            len,
            room,
            within,
          )) c.self.invariant.0
          ∙ ap (λ t. drop c.self.inside.start t ++ take n c.read.new.buf) kept
          ∙ ap (λ t. t ++ take n c.read.new.buf) (c.self.view_is ∙ c.make_room.ensures);
      gave = c.in_ok-n.ensures.bytes.0;
      ended = λ none. c.in_ok-n.ensures.bytes.1 none (omega (arith, read));
    }

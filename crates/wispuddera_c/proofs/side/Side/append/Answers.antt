use Rattle.std.proofs.Common.{◌≡◌, ◌+◌, ◌-◌, length, refl, ◌∙◌, ap, arith}
use Rattle.std.proofs.lemmas.Slice.{put_mid-paste}
use Rattle.tls_stream.specs.Stream.{fed}
use Rattle.wispuddera_c.proofs.MovedLemmas.{fed_stream}
use Rattle.wispuddera_c.proofs.side.Side.append.Goals as goal

pub returns-clause-fed : goal.returns-clause-fed
returns-clause-fed c = λ k.
    let s = c.make_room_for.new.self in
    let piece = c.args.piece.now in
    let count : length piece ≡ s.end + length piece - s.end = omega arith in
    fed_stream k c.make_room_for.new.buffer _ piece s c.make_room_for.ensures.within
    (put_mid-paste s.end (s.end + length piece - s.end) c.make_room_for.new.buffer
    c.copy_from_slice.new.self piece
    (length piece) c.copy_from_slice.ensures.after count refl)
    ∙ ap (λ d. fed d piece) (c.make_room_for.ensures.same k)

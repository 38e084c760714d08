use Rattle.std.proofs.Common.{◌≡◌, ◌-◌, ◌+◌, ◌≤◌, ℕ, length, drop, take, min, sym, subst, ◌∙◌, ap, arith}
use Rattle.std.proofs.Math.Seq.{paste}
use Rattle.std.proofs.lemmas.List.{length-take-le}
use Rattle.std.proofs.lemmas.Slice.{put_mid-paste}
use Rattle.layouts.specs.Bytes.{Bytes}
use Rattle.wispuddera_c.proofs.StreamLemmas.{fed_stands}
use Rattle.wispuddera_c.proofs.stream.wispuddera_feed.Goals as goal

pub returns-clause-fed : goal.returns-clause-fed
returns-clause-fed c = λ lies.
    let old : Bytes = c.args.buffer.now in
    let a : ℕ = c.args.held.now.length in
    let o : ℕ = c.args.held.now.offset in
    let n : ℕ = c.min-count.result in
    let least : n ≡ min (length c.args.piece.now) (length old - a) =
    c.min-count.ensures
    ∙ ap (λ k. min (length c.args.piece.now) (k - a)) c.copy_within.ensures.len in
    let short : n ≤ length c.args.piece.now = omega (arith, least) in
    let fits : a + n ≤ length old = omega (arith, least, lies) in
    let size : length (take n c.args.piece.now) ≡ n = length-take-le n c.args.piece.now short in
    let count : o + a - o ≡ a = omega arith in
    let moved : c.copy_within.new.self ≡ paste old 0 (drop o old) a =
    subst (λ k. c.copy_within.new.self ≡ paste old 0 (drop o old) k) count
    c.copy_within.ensures.after in
    record {
      all_there_is_room_for = least;
      holds = fed_stands old c.copy_within.new.self _ c.args.piece.now o a n lies short fits moved
          (put_mid-paste a (a + n - a) c.copy_within.new.self c.copy_from_slice.new.self
          (take n c.args.piece.now) n c.copy_from_slice.ensures.after (omega arith) (sym size));
    }

use Rattle.std.proofs.Common.{◌-◌, ◌++◌, length, take, drop, min, ap, ◌∙◌, append_assoc}
use Rattle.segments.specs.Places.{over}
use Rattle.segments.proofs.PlaceLemmas.{over_common}
use Rattle.segments.proofs.places.append_over.Goals as goal

pub returns-clause-out : goal.returns-clause-out
returns-clause-out c =
    let w = c.args.window.now in
    let ys = c.args.bytes.now in
    let n = c.min-common.result in
    let rest = take (length ys - n) (drop n ys) in
    c.in_ok-extend_from_slice.ensures.items
    ∙ ap (λ o. o ++ rest) c.in_ok-append_over.ensures.out
    ∙ append_assoc c.args.out.now.items (over w (take n ys)) rest
    ∙ ap (λ r. c.args.out.now.items ++ r)
    (over_common n w ys (c.min-common.ensures ∙ ap (min (length ys)) c.len.ensures))

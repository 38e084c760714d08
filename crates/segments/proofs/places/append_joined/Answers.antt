use Rattle.std.proofs.Common.{length, min, ap, ◌∙◌}
use Rattle.segments.proofs.PlaceLemmas.{joined_is}
use Rattle.segments.proofs.places.append_joined.Goals as goal

pub returns-clause-out : goal.returns-clause-out
returns-clause-out c =
    joined_is c.args.out.now.items c.append_over.new.out.items _ c.args.window.now c.args.bytes.now
    c.min.result
    c.in_ok-append_over.ensures.out
    (c.min.ensures ∙ ap (min (length c.args.bytes.now)) c.len.ensures)
    c.in_ok-append_run.ensures.out

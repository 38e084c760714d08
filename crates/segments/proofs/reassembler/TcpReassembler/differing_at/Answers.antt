use Rattle.std.proofs.Common.{◌+◌, ◌++◌, Some, map, drop, length, ap, sym, ◌∙◌}
use Rattle.segments.specs.Cells.{differing, differing_located}
use Rattle.segments.proofs.HeldLemmas.{run_held}
use Rattle.segments.proofs.PlaceLemmas.{differing_behind}
use Rattle.segments.proofs.reassembler.TcpReassembler.differing_at.Goals as goal

pub returns-clause-is : goal.returns-clause-is
returns-clause-is c =
    let i = c.self.inside in
    let F = drop i.start i.front.items in
    let ys = c.args.bytes.now in
    let k = c.args.ahead in
    c.count_differing.ensures.is
    ∙ sym (differing_behind F i.window k ys)
    ∙ ap (λ r. differing (length r + k) ys (map Some F ++ i.window))
    (sym (run_held i.start i.taken i.limit i.front.items i.window c.self.invariant))
    ∙ ap (differing_located (k, ys)) c.self.view_is

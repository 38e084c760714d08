use Rattle.std.proofs.Common.{◌≡◌, ◌≤◌, ◌+◌, ◌-◌, ◌++◌, length, take, drop, subst, sym, ◌∙◌, ap, arith}
use Rattle.std.proofs.Math.Seq.{take-add}
use Rattle.std.proofs.lemmas.List.{length-take-le}
use Rattle.segments.specs.Pages.{IsWritten}
use Rattle.segments.proofs.PageLemmas.{written_on}
use Rattle.segments.proofs.SpanLemmas.{part_long}
use Rattle.segments.proofs.pages.write_bytes.Goals as goal

pub loop-done-preserved : goal.loop-done-preserved
loop-done-preserved c =
    let inv = c.loop-done.invariant in
    let ys = c.args.bytes.now in
    let done = c.loop-done.done in
    let most = c.min-most.result in
    let k = done + most - done in
    let most_is = c.min-most.ensures in
    let more = c.write_in_page-count.ensures in
    let same : k ≡ most = omega arith in
    let fits : done + most ≤ length ys = omega (arith, inv.1, most_is, c.loop-done-test.true) in
    let long = part_long ys done most k same fits in
    let front = length-take-le done ys (omega (arith, inv.1)) in (
      omega (arith, inv.0, more.within, long),
      fits,
      subst (λ xs. IsWritten c.args.at xs c.args.pages.now c.write_in_page-count.new.pages
          (c.loop-done.count + c.write_in_page-count.result))
          (ap (λ j. take done ys ++ take j (drop done ys)) same ∙ sym (take-add done most ys))
          (written_on c.args.at (c.args.at + done) c.loop-done.count c.write_in_page-count.result
          (take done ys) _
          c.args.pages.now c.loop-done.pages c.write_in_page-count.new.pages
          (ap (λ n. c.args.at + n) (sym front)) inv.2 more.written),
    )

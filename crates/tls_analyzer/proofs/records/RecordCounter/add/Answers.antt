use Rattle.std.proofs.Common.{refl, arith}
use Rattle.tls_analyzer.proofs.RecordLemmas.{passed}
use Rattle.tls_analyzer.proofs.records.RecordCounter.add.Goals as goal

pub loop-i-preserved : goal.loop-i-preserved
loop-i-preserved c =
    let low = c.min-passed.ensures in
    let wide = c.from.ensures in
    let inv = c.loop-i.invariant in
    let below = c.loop-i-test.true in (
      omega (arith, low, wide, below),
      passed c.min-passed.result c.loop-i.i c.args.bytes.now c.loop-i.self _ _
          (omega (arith, low, wide))
          (omega (arith, low, wide, below)) refl inv.1,
    )

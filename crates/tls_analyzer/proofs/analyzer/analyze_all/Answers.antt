use Rattle.tls_analyzer.proofs.TurnLemmas.{all_received, piece_received}
use Rattle.tls_analyzer.proofs.analyzer.analyze_all.Goals as goal

pub loop-side-preserved : goal.loop-side-preserved
loop-side-preserved c = (
  c.loop-side.invariant.0,
  c.loop-side.invariant.1,
  piece_received c.loop-side.invariant.0 c.loop-side.analyzer c.analyze.new.self c.args.pieces.now
      c.loop-side.side-index _
      c.loop-side-test.true
      c.loop-side.invariant.2 c.in_ok-analyze.ensures,
)

pub returns : goal.returns
returns c = record {
  begun = c.loop-side.invariant.0;
  new = c.loop-side.invariant.1;
  received = all_received c.loop-side.invariant.0 c.loop-side.analyzer c.args.pieces.now
      c.loop-side.side-index
      c.loop-side-test.false
      c.loop-side.invariant.2;
}

use Rattle.std.proofs.Common.{◌∙◌, sym}
use Rattle.std.proofs.lemmas.List.{at_drop_more}
use Rattle.tls_stream.specs.Conversations.{views}
use Rattle.dtls_analyzer.specs.Datagrams.{received_all}
use Rattle.dtls_analyzer.proofs.datagram_analyzer.analyzer_of.Goals as goal

pub loop-side-preserved : goal.loop-side-preserved
loop-side-preserved c = (
  _,
  c.in_ok-analyze.ensures c.loop-side.invariant.0 c.loop-side.invariant.1,
  sym (at_drop_more (λ ds. received_all c.loop-side.invariant.0 (views ds)) c.args.datagrams.now
      c.loop-side.side-index _ c.loop-side-test.true) ∙ c.loop-side.invariant.2,
)

-- reading the rest of the datagrams in the state so far gives the final state
use Rattle.std.proofs.Common.{◌≡◌, drop}
use Rattle.tls_stream.specs.Conversations.{views}
use Rattle.dtls_analyzer.specs.Datagrams.{IsKnown, Analyzer, received_all, nothing_observed}
use Rattle.dtls_analyzer.proofs.datagram_analyzer.analyzer_of.Given as goal

abbrev pub invariant-loop-side : goal.invariant-loop-side
invariant-loop-side l =
    (k : Analyzer) × IsKnown k l.analyzer
    × (received_all k (views (drop l.side-index l.datagrams)) ≡ received_all nothing_observed (views
    l.datagrams))

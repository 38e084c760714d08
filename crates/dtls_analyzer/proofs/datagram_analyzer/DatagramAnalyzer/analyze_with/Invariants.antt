-- reading the rest of the datagram in the state so far gives the final state
use Rattle.std.proofs.Common.{◌-◌, length}
use Rattle.dtls_analyzer.specs.Datagrams.{IsKnown, Analyzer, received}
use Rattle.dtls_analyzer.proofs.ReceivedLemmas.{IsReading}
use Rattle.dtls_analyzer.proofs.datagram_analyzer.DatagramAnalyzer.analyze_with.Given as goal

abbrev pub invariant-records : goal.invariant-records
invariant-records g l =
    (k : Analyzer) → IsKnown k l.initial.self →
    IsReading (received k l.side l.fn.datagram) (length l.fn.datagram - l.read) l.side l.left l.self

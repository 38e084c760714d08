-- the pieces so far were read, from the beginning
use Rattle.std.proofs.Common.{take}
use Rattle.tls_stream.specs.Conversations.{views}
use Rattle.tls_analyzer.specs.Analyzers.{AreReadOn, IsNew}
use Rattle.tls_analyzer.specs.declared.analyzer.Analyzer.{Analyzer}
use Rattle.tls_analyzer.proofs.analyzer.analyze_all.Given as goal

abbrev pub invariant-loop-side : goal.invariant-loop-side
invariant-loop-side l =
    (t : Analyzer) × IsNew t × AreReadOn t (views (take l.side-index l.pieces)) l.analyzer

use Rattle.tls_analyzer.proofs.FollowLemmas.{IsOn}
use Rattle.tls_analyzer.proofs.analyzer.Analyzer.follow.Given as goal

abbrev pub invariant-loop : goal.invariant-loop
invariant-loop g l = IsOn l.fn.self l.side l.piece l.self l.counter

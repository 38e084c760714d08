-- The analysis after its borrowed collector is given back.
use Rattle.std.specs.Prelude.{Option}
use Rattle.std.specs.Option.{option_map}
use Rattle.std.specs.Borrow.{Fml, RattleType, MutBor, LendsIf}
use Rattle.std.specs.Box.{with_value}
use Rattle.log_connections.specs.declared.analysis.TlsAnalysis.{TlsAnalysis}
use Rattle.log_connections.specs.contracts.analysis.TlsAnalysis as analysis

-- The analysis has the collector that was written, and everything else stays. Without a collector
-- nothing changes.
abbrev pub lends_collector : (K : RattleType) → MutBor (TlsAnalysis K.Denot)
    → Option (MutBor K.Denot) → Fml
lends_collector K a r = LendsIf (analysis.the_row K) K a r
    (λ k. record a.now { collector = option_map (λ b. with_value b k) a.now.collector }) a.now

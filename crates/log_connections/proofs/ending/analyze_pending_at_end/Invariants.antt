use Rattle.std.specs.Prelude.{◌-◌}
use Rattle.connections.specs.declared.pending.TheConstants.{MAX_PENDING}
use Rattle.log_connections.specs.AtEnd.{AnalyzesAllAtEnd, AnalyzesAtEnd, RefusesAtEnd, RefusesSomeAtEnd}
use Rattle.log_connections.proofs.ending.analyze_pending_at_end.Given as goal

-- What is analyzed from here on, behind what was analyzed so far, is all. So is what is refused.
abbrev pub invariant-waiting : goal.invariant-waiting
invariant-waiting g l = record {
  analysis : (final : _) → AnalyzesAtEnd (MAX_PENDING - l.count) l.connection final
      → AnalyzesAllAtEnd l.initial.connection final;
  refused : (final : _) → RefusesAtEnd (MAX_PENDING - l.count) l.connection final
      → RefusesSomeAtEnd l.initial.connection final;
}

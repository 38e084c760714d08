-- How the pending segments of a connection are analyzed once it is over.
use Rattle.std.specs.Prelude.{◌≡◌, ℕ, ◌+◌, Bool, true, false, Some, None}
use Rattle.connections.specs.Connection.{AcceptsKept, LeavesOutKept}
use Rattle.connections.specs.Ending.{left_at_end, outcome_at_end}
use Rattle.connections.specs.Waiting.{Kept}
use Rattle.connections.specs.declared.connection.Connection.{Connection}
use Rattle.connections.specs.declared.pending.PendingOutcome.TheVariants as outcome
use Rattle.connections.specs.declared.pending.TheConstants.{MAX_PENDING}
use Rattle.log_connections.specs.Sides.{AnalyzesKept, ChangesAnalysis, IsOnItsOwn}
use Rattle.log_connections.specs.declared.analysis.TlsAnalysis.{TlsAnalysis}

module _ {K : Type 0} where
  -- The first pending segment that counts as taken is analyzed, unless all its bytes came
  -- otherwise. Or there is none.
  pub data AnalyzesOneAtEnd (c c' : Connection (TlsAnalysis K)) : Bool → Type 0 where
    none : outcome_at_end c ≡ None → c' ≡ left_at_end c → AnalyzesOneAtEnd c c' false
    had : outcome_at_end c ≡ Some outcome.Had → c' ≡ left_at_end c → AnalyzesOneAtEnd c c' true
    taken :
        (k : Kept) → outcome_at_end c ≡ Some (outcome.Taken k)
        → AnalyzesKept IsOnItsOwn k (left_at_end c) c' → AnalyzesOneAtEnd c c' true

  -- Those that count as taken are analyzed one by one, at most this many.
  pub data AnalyzesAtEnd
      : ℕ → Connection (TlsAnalysis K) → Connection (TlsAnalysis K) → Type 0 where
    enough : (c : Connection (TlsAnalysis K)) → AnalyzesAtEnd 0 c c
    no_more :
        (n : ℕ) (c d : Connection (TlsAnalysis K)) → AnalyzesOneAtEnd c d false
        → AnalyzesAtEnd n c d
    one_then :
        (m n : ℕ) (c mid d : Connection (TlsAnalysis K)) → m ≡ n + 1
        → AnalyzesOneAtEnd c mid true → AnalyzesAtEnd n mid d → AnalyzesAtEnd m c d

  abbrev pub AnalyzesAllAtEnd : Connection (TlsAnalysis K) → Connection (TlsAnalysis K) → Type 0
  AnalyzesAllAtEnd c d = AnalyzesAtEnd MAX_PENDING c d

  -- Memory was refused for one of them: its bytes are left out, or weren't analyzed.
  pub data RefusesKept (k : Kept) (c c' : Connection (TlsAnalysis K)) : Type 0 where
    left_out : LeavesOutKept k c c' → RefusesKept k c c'
    unanalyzed :
        (put : Connection (TlsAnalysis K)) → AcceptsKept k c put → ChangesAnalysis put c'
        → RefusesKept k c c'

  abbrev pub RefusesOneAtEnd : Connection (TlsAnalysis K) → Connection (TlsAnalysis K) → Type 0
  RefusesOneAtEnd c c' = (k : Kept) × (outcome_at_end c ≡ Some (outcome.Taken k))
      × RefusesKept k (left_at_end c) c'

  -- It was refused for the first of them, or for a later one.
  pub data RefusesAtEnd
      : ℕ → Connection (TlsAnalysis K) → Connection (TlsAnalysis K) → Type 0 where
    at_first :
        (n : ℕ) (c d : Connection (TlsAnalysis K)) → RefusesOneAtEnd c d → RefusesAtEnd n c d
    behind_one :
        (m n : ℕ) (c mid d : Connection (TlsAnalysis K)) → m ≡ n + 1
        → AnalyzesOneAtEnd c mid true → RefusesAtEnd n mid d → RefusesAtEnd m c d

  abbrev pub RefusesSomeAtEnd : Connection (TlsAnalysis K) → Connection (TlsAnalysis K) → Type 0
  RefusesSomeAtEnd c d = RefusesAtEnd MAX_PENDING c d

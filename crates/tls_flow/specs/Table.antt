-- What the table of transitions answers, and the rules for symbols without a row.
use Rattle.std.specs.Prelude.{
  ◌≡◌,
  ℕ,
  List,
  [],
  ◌∷◌,
  Option,
  Some,
  None,
  Bool,
  true,
  false,
  ◌&&◌,
  if◌then◌else◌,
  slice_get,
}
use Rattle.tls_flow.specs.declared.symbol.Symbol.{Symbol}
use Rattle.tls_flow.specs.Symbols.{symbol}
use Rattle.tls_flow.specs.Grammar.{is_noise_of}
use Rattle.tls_flow.specs.declared.state.State.{State}
use Rattle.tls_flow.specs.declared.state.State.TheVariants as state
use Rattle.tls_flow.specs.declared.state.Outcome.{Outcome}
use Rattle.tls_flow.specs.declared.state.Outcome.TheVariants as outcome
use Rattle.tls_flow.specs.declared.symbol.Kind.{Kind}
use Rattle.tls_flow.specs.declared.symbol.Kind.TheVariants as kind
use Rattle.tls_flow.specs.declared.symbol.Direction.{Direction}
use Rattle.tls_flow.specs.declared.table.Row.{Row}
use Rattle.tls_flow.specs.declared.table.TheConstants.{ROWS}
use Rattle.tls_flow.specs.contracts.state.State.{the_type as states}
use Rattle.tls_flow.specs.contracts.symbol.Kind.{the_type as kinds}
use Rattle.tls_flow.specs.contracts.symbol.Direction.{the_type as directions}
use denote.Enum.Bare.{sameb}

-- Where the first row with this kind and direction leads.
abbrev pub next_in : List Row → Kind → Direction → Option State
next_in [] k d = None
next_in (r ∷ rows) k d =
    if sameb kinds r.kind k && sameb directions r.direction d then Some r.next else next_in rows k d

-- Where the first row with this state, kind and direction leads.
abbrev pub next_after : List Row → State → Kind → Direction → Option State
next_after [] q k d = None
next_after (r ∷ rows) q k d = if sameb states r.state q &&
    (sameb kinds r.kind k && sameb directions r.direction d) then
    Some r.next else next_after rows q k d

-- The symbols of a state's rows: what it waits for.
abbrev pub awaited_in : List Row → State → List Symbol
awaited_in [] q = []
awaited_in (r ∷ rows) q =
    if sameb states r.state q then
    symbol r.kind r.direction ∷ awaited_in rows q else awaited_in rows q

-- No two rows have the same state, kind and direction.
abbrev pub IsOneRowEach : List Row → Type 0
IsOneRowEach rows =
    (i j : ℕ) (r s : Row) → slice_get rows i ≡ Some r → slice_get rows j ≡ Some s
    → r.state ≡ s.state → r.kind ≡ s.kind → r.direction ≡ s.direction → i ≡ j

-- The outcome of a state.
abbrev pub outcome_at : State → Outcome
outcome_at state.Full = outcome.Full
outcome_at state.Resumed = outcome.Resumed
outcome_at state.Tls13 = outcome.Tls13 false false
outcome_at state.EarlyTls13 = outcome.Tls13 false true
outcome_at state.RetriedTls13 = outcome.Tls13 true false
outcome_at state.EarlyRetriedTls13 = outcome.Tls13 true true
outcome_at state.BrokenOff = outcome.BrokenOff
outcome_at state.Unknown = outcome.Unknown
outcome_at state.NoHandshake = outcome.NoHandshake
outcome_at _ = outcome.Waiting

abbrev pub is_waiting : Outcome → Bool
is_waiting outcome.Waiting = true
is_waiting _ = false

-- An end without success.
abbrev pub is_failed : Outcome → Bool
is_failed outcome.BrokenOff = true
is_failed outcome.Unknown = true
is_failed outcome.NoHandshake = true
is_failed _ = false

-- Without a row: a final state and noise change nothing, a fatal alert breaks off the handshake, an
-- unknown message gives Unknown, and any other NoHandshake.
abbrev pub unended_rule : State → Kind → Bool → State
unended_rule q k true = q
unended_rule q kind.Fatal false = state.BrokenOff
unended_rule q kind.Unknown false = state.Unknown
unended_rule q k false = state.NoHandshake

abbrev pub rule_by : Outcome → State → Kind → Direction → State
rule_by outcome.Waiting q k d = unended_rule q k (is_noise_of k d)
rule_by _ q k d = q

abbrev pub rule : State → Kind → Direction → State
rule q k d = rule_by (outcome_at q) q k d

abbrev pub row_or : Option State → State → State
row_or (Some q) r = q
row_or None r = r

-- The state after a symbol.
abbrev pub step : State → Symbol → State
step q l = row_or (next_after ROWS q l.kind l.direction) (rule q l.kind l.direction)

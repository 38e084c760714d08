-- Look-ups in a table of transitions.
use Rattle.std.specs.Prelude.{◌≡◌, ℕ, List, [], ◌∷◌, Option, Some, None, ◌&&◌, if◌then◌else◌, slice_get}
use Rattle.tls_states.specs.declared.state.TlsState.{TlsState}
use Rattle.tls_states.specs.declared.symbol.Kind.{Kind}
use Rattle.tls_states.specs.declared.symbol.Direction.{Direction}
use Rattle.tls_states.specs.declared.table.Row.{Row}
use Rattle.tls_states.specs.contracts.state.TlsState.{the_type as states}
use Rattle.tls_states.specs.contracts.symbol.Kind.{the_type as kinds}
use Rattle.tls_states.specs.contracts.symbol.Direction.{the_type as directions}
use denote.Enum.Bare.{sameb}

-- Where the first row of this kind and direction leads.
abbrev pub next_in : List Row → Kind → Direction → Option TlsState
next_in [] k d = None
next_in (r ∷ rows) k d =
    if sameb kinds r.kind k && sameb directions r.direction d then Some r.next else next_in rows k d

-- Where the first row of this state, kind and direction leads.
abbrev pub next_after : List Row → TlsState → Kind → Direction → Option TlsState
next_after [] q k d = None
next_after (r ∷ rows) q k d = if sameb states r.state q &&
    (sameb kinds r.kind k && sameb directions r.direction d) then
    Some r.next else next_after rows q k d

-- No two rows have the same state, kind and direction.
abbrev pub IsOneRowEach : List Row → Type 0
IsOneRowEach rows =
    (i j : ℕ) (r s : Row) → slice_get rows i ≡ Some r → slice_get rows j ≡ Some s
    → r.state ≡ s.state → r.kind ≡ s.kind → r.direction ≡ s.direction → i ≡ j

-- The rows of the table.
use Rattle.std.proofs.Common.{◌≡◌, List, Bool, true, ◌&&◌, slice_index_or, refl, sym, ◌∙◌, ap}
use Rattle.std.specs.List.{list_all}
use Rattle.tls_words.proofs.PatternLemmas.{and_both}
use Rattle.tls_words.proofs.TableLemmas.{one_place}
use Rattle.tls_flow.specs.Symbols.{symbol}
use Rattle.tls_flow.specs.Table.{IsOneRowEach, step}
use Rattle.tls_flow.specs.declared.symbol.Kind.{Kind}
use Rattle.tls_flow.specs.declared.symbol.Direction.{Direction}
use Rattle.tls_flow.specs.declared.state.State.{State}
use Rattle.tls_flow.specs.declared.symbol.Symbol.{Symbol}
use Rattle.tls_flow.specs.declared.state.State.TheVariants as state
use Rattle.tls_flow.specs.declared.table.Row.{Row}
use Rattle.tls_flow.specs.declared.table.TheConstants.{ROWS, STEPS}
use Rattle.tls_flow.specs.contracts.state.State.{the_type as states}
use Rattle.tls_flow.specs.contracts.symbol.Kind.{the_type as kinds}
use Rattle.tls_flow.specs.contracts.symbol.Direction.{the_type as directions}
use denote.Enum.Bare.{true_same}
use denote.Enum.Declared.{tag_of}
use lib.Dec.{eqb}
use Rattle.tls_flow.proofs.SymbolLemmas.{symbols, passes}
use Rattle.tls_flow.proofs.NumberLemmas.{
  state_number,
  kind_number,
  direction_number,
  state_tag,
  kind_tag,
  direction_tag,
  same_states,
  same_kinds,
  same_directions,
  same_number,
  rows_of,
  step_by,
  step_is,
}

-- No two rows have the same state, kind and direction.
abbrev is_like : Row → Row → Bool
is_like r s = eqb (state_number r.state) (state_number s.state)
    && (eqb (kind_number r.kind) (kind_number s.kind)
    && eqb (direction_number r.direction) (direction_number s.direction))

alike : (r s : Row) → r.state ≡ s.state → r.kind ≡ s.kind → r.direction ≡ s.direction
    → is_like r s ≡ true
alike r s e f g =
    and_both _ _ (sym (same_states r.state s.state) ∙ true_same states r.state s.state e)
    (and_both _ _ (sym (same_kinds r.kind s.kind) ∙ true_same kinds r.kind s.kind f)
    (sym (same_directions r.direction s.direction)
    ∙ true_same directions r.direction s.direction g))

pub rows_are_one_each : IsOneRowEach ROWS
rows_are_one_each i j r s at_i at_j e f g =
    one_place is_like ROWS refl i j r s at_i at_j (alike r s e f g)
    (alike s r (sym e) (sym f) (sym g))

-- The look-up of a symbol at a state.
abbrev pub IsLookedUp : State → Kind → Direction → Type 0
IsLookedUp q k d =
    (a : List (List State)) (b : List State) (s : State)
    → slice_index_or (slice_index_or (slice_index_or STEPS (tag_of states q) a) (tag_of kinds k) b)
    (tag_of directions d) s ≡ step q (symbol k d)

abbrev entry : List (List State) → List State → State → Symbol → State
entry row b s l =
    slice_index_or (slice_index_or row (kind_number l.kind) b) (direction_number l.direction) s

abbrev entry_test : State → List Row → List (List State) → List State → State → Symbol → Bool
entry_test q rows row b s l = eqb (state_number (entry row b s l)) (state_number (step_by rows q l))

entries_pass : (q : State) (a : List (List State)) (b : List State) (s : State)
    → list_all (entry_test q (rows_of q) (slice_index_or STEPS (state_number q) a) b s)
    symbols ≡ true
entries_pass = elim [ state.Start ↦ λ a b s. refl | _ ↦ λ a b s. refl ]

pub looked_up : (q : State) (k : Kind) (d : Direction) → IsLookedUp q k d
looked_up q k d a b s =
    ap (λ n. slice_index_or (slice_index_or (slice_index_or STEPS n a) (tag_of kinds k) b)
    (tag_of directions d) s)
    (state_tag q)
    ∙ ap (λ n. slice_index_or (slice_index_or (slice_index_or STEPS (state_number q) a) n b)
    (tag_of directions d) s)
    (kind_tag k)
    ∙ ap (λ n. slice_index_or
    (slice_index_or (slice_index_or STEPS (state_number q) a) (kind_number k) b) n s)
    (direction_tag d)
    ∙ same_number (entry (slice_index_or STEPS (state_number q) a) b s (symbol k d))
    (step_by (rows_of q) q (symbol k d))
    (passes (entry_test q (rows_of q) (slice_index_or STEPS (state_number q) a) b s) (symbol k d)
    (entries_pass q a b s))
    ∙ sym (step_is q (symbol k d))

-- What a state waits for, by its rows and by the grammar.
use Rattle.std.proofs.Common.{
  ◌≡◌,
  ◌↔◌,
  inl,
  inr,
  List,
  [],
  Option,
  Some,
  if◌then◌else◌,
  ◌∷◌,
  ◌++◌,
  Bool,
  true,
  false,
  not,
  ◌&&◌,
  ◌||◌,
  Contains,
  refl,
  sym,
  ◌∙◌,
  ap,
  subst,
}
use Rattle.tls_words.specs.Words.{run}
use Rattle.tls_words.proofs.PatternLemmas.{both_and, and_both}
use Rattle.tls_words.proofs.SymbolLemmas.{is_yes, decided, is_in, in_contains, contains_in}
use Rattle.tls_words.proofs.MachineLemmas.{run_on}
use Rattle.tls_flow.specs.Symbols.{symbol, Word, symbols_of}
use Rattle.tls_flow.specs.Grammar.{is_noise}
use Rattle.tls_flow.specs.Table.{step, outcome_at, is_waiting, awaited_in}
use Rattle.tls_flow.specs.Steps.{silence, follow}
use Rattle.tls_flow.specs.Conversations.{IsAwaited}
use Rattle.tls_flow.specs.declared.event.FlowEvent.{FlowEvent}
use Rattle.tls_flow.specs.declared.flow.Flow.{Flow}
use Rattle.tls_flow.specs.declared.symbol.Symbol.{Symbol}
use Rattle.tls_flow.specs.declared.state.State.{State}
use Rattle.tls_flow.specs.declared.state.State.TheVariants as state
use Rattle.tls_flow.specs.declared.state.Outcome.{Outcome}
use Rattle.tls_flow.specs.declared.state.Outcome.TheVariants as outcome
use Rattle.tls_flow.specs.declared.table.TheConstants.{ROWS}
use Rattle.tls_flow.specs.declared.table.Row.{Row}
use Rattle.tls_flow.specs.contracts.symbol.Kind.{the_type as kinds}
use Rattle.tls_flow.specs.contracts.symbol.Direction.{the_type as directions}
use Rattle.tls_flow.proofs.NumberLemmas.{
  state_number,
  kind_number,
  direction_number,
  same_states,
  same_kinds,
  same_directions,
  is_symbol,
  rows_at,
  next_of,
}
use Rattle.tls_flow.proofs.SymbolLemmas.{same_kind, same_direction, of_parts, same_symbol}
use Rattle.tls_flow.proofs.StepLemmas.{
  is_done,
  is_alive,
  waiting_is,
  not_true,
  is_some,
  has_symbol,
  awaits,
  symbol_awaited,
}
use Rattle.tls_flow.proofs.ConversationLemmas.{end_of, waiting_where, alive_to, alive_from, done_from}
use Rattle.tls_flow.proofs.FlowLemmas.{state_of}
use denote.Enum.Bare.{Bare, sameb}
use denote.Enum.Declared.{Declared}
use lib.Dec.{eqb}

-- A list built from rows has a symbol exactly if a row of the state has it.
decided_is : (D : Declared) (bare : Bare D.parts) (a b : D.D) (t : Bool) (e : sameb D a b ≡ t)
    → is_yes (decided D bare a b t e) ≡ t
decided_is D bare a b true e = refl
decided_is D bare a b false e = refl

both_parts : (a b : Symbol) (d : Dec (a.kind ≡ b.kind)) (e : Dec (a.direction ≡ b.direction))
    → is_yes (of_parts a b d e) ≡ (is_yes d && is_yes e)
both_parts a b (yes p) (yes q) = refl
both_parts a b (no p) q = refl
both_parts a b (yes p) (no q) = refl

same_is : (r : Row) (l : Symbol)
    → is_yes (same_symbol (symbol r.kind r.direction) l)
    ≡ is_symbol (kind_number l.kind) (direction_number l.direction) r
same_is r l =
    both_parts (symbol r.kind r.direction) l (same_kind r.kind l.kind)
    (same_direction r.direction l.direction)
    ∙ ap (λ t. t && is_yes (same_direction r.direction l.direction))
    (decided_is kinds tt r.kind l.kind (eqb (kind_number r.kind) (kind_number l.kind))
    (same_kinds r.kind l.kind))
    ∙ ap (λ t. eqb (kind_number r.kind) (kind_number l.kind) && t)
    (decided_is directions tt r.direction l.direction
    (eqb (direction_number r.direction) (direction_number l.direction))
    (same_directions r.direction l.direction))

some_first : (t : Bool) (s : State) (n : Option State)
    → (t || is_some n) ≡ is_some (if t then Some s else n)
some_first true s n = refl
some_first false s n = refl

in_first : (t : Bool) (r : Row) (rows : List Row) (xs : List Symbol) (l : Symbol)
    → is_in same_symbol xs l ≡ has_symbol rows l
    → is_in same_symbol (if t then symbol r.kind r.direction ∷ xs else xs) l
    ≡ has_symbol (if t then r ∷ rows else rows) l
in_first true r rows xs l h =
    ap (λ t. t || is_in same_symbol xs l) (same_is r l)
    ∙ ap (λ t. is_symbol (kind_number l.kind) (direction_number l.direction) r || t) h
    ∙ some_first (is_symbol (kind_number l.kind) (direction_number l.direction) r) r.next
    (next_of rows l)
in_first false r rows xs l h = h

in_awaited : (rows : List Row) (q : State) (l : Symbol)
    → is_in same_symbol (awaited_in rows q) l ≡ has_symbol (rows_at rows (state_number q)) l
in_awaited [] q l = refl
in_awaited (r ∷ rows) q l =
    ap (λ t. is_in same_symbol
    (if t then symbol r.kind r.direction ∷ awaited_in rows q else awaited_in rows q) l)
    (same_states r.state q)
    ∙ in_first (eqb (state_number r.state) (state_number q)) r (rows_at rows (state_number q))
    (awaited_in rows q) l
    (in_awaited rows q l)

awaits_is : (q : State) (l : Symbol) → is_in same_symbol (awaited_in ROWS q) l ≡ awaits q l
awaits_is q l = in_awaited ROWS q l ∙ symbol_awaited q l

false_not : (t : Bool) → t ≡ false → not t ≡ true
false_not true h = cc
false_not false h = refl

alive_if_done : (o : Outcome) → is_done o ≡ true → is_alive o ≡ true
alive_if_done = elim [
  | outcome.Waiting ↦ λ h. refl
  | outcome.Full ↦ λ h. refl
  | outcome.Resumed ↦ λ h.
      refl
  | outcome.Tls13 r e ↦ λ h. refl
  | _ ↦ λ h. cc
]

module _ (w : Word) (l : Symbol) where
  next_end : end_of (w ++ l ∷ []) ≡ step (end_of w) l
  next_end = run_on step state.Start w (l ∷ [])

  awaited_to : awaits (end_of w) l ≡ true → IsAwaited l w
  awaited_to t =
      let a : (is_waiting (outcome_at (end_of w)) ≡ true)
      × ((not (is_noise l) && is_alive (outcome_at (step (end_of w) l))) ≡ true) = both_and _ _ t in
      let b : (not (is_noise l) ≡ true) × (is_alive (outcome_at (step (end_of w) l)) ≡ true) =
      both_and _ _ a.1 in (
        (waiting_where w).0 (waiting_is (outcome_at (end_of w)) a.0),
        not_true (is_noise l) b.0,
        alive_to (w ++ l ∷ []) (ap (λ q. is_alive (outcome_at q)) next_end ∙ b.1),
      )

  awaited_from : IsAwaited l w → awaits (end_of w) l ≡ true
  awaited_from h =
      let alive : is_alive (outcome_at (end_of (w ++ l ∷ []))) ≡ true = elim h.2 [
        | inl k ↦ alive_if_done (outcome_at (end_of (w ++ l ∷ []))) (done_from (w ++ l ∷ []) k)
        | inr k ↦ alive_from (w ++ l ∷ []) k
      ] in
      and_both _ _ (ap is_waiting ((waiting_where w).1 h.0))
      (and_both _ _ (false_not (is_noise l) h.1)
      (ap (λ q. is_alive (outcome_at q)) (sym next_end) ∙ alive))

pub awaited_of_flow : (xs : List Symbol) (f : Flow) (es : List FlowEvent)
    → xs ≡ awaited_in ROWS f.state
    → f ≡ run follow silence es → (l : Symbol) → Contains xs l ↔ IsAwaited l (symbols_of es)
awaited_of_flow xs f es rows comes l =
    let at : f.state ≡ end_of (symbols_of es) = ap (λ g. g.state) comes ∙ state_of silence es in
    let ys : xs ≡ awaited_in ROWS (end_of (symbols_of es)) = rows ∙ ap (awaited_in ROWS) at in
    subst (λ zs. Contains zs l ↔ IsAwaited l (symbols_of es)) (sym ys) (
      λ h. awaited_to (symbols_of es) l (sym (awaits_is (end_of (symbols_of es)) l)
          ∙ contains_in same_symbol (awaited_in ROWS (end_of (symbols_of es))) l h),
      λ h. in_contains same_symbol (awaited_in ROWS (end_of (symbols_of es))) l
          (awaits_is (end_of (symbols_of es)) l ∙ awaited_from (symbols_of es) l h),
    )

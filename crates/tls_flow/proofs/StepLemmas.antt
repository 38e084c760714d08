-- A step follows a row, or the rule if no row has the symbol. What all rows have in common.
use Rattle.std.proofs.Common.{
  ◌≡◌,
  ◌⊎◌,
  inl,
  inr,
  List,
  [],
  ◌∷◌,
  Option,
  Some,
  None,
  Bool,
  true,
  false,
  not,
  ◌&&◌,
  ◌||◌,
  if◌then◌else◌,
  refl,
  sym,
  ◌∙◌,
  ap,
  subst,
}
use Rattle.std.specs.List.{list_all}
use Rattle.tls_words.specs.Words.{run}
use Rattle.tls_words.proofs.PatternLemmas.{both_and}
use Rattle.tls_flow.specs.Symbols.{symbol, Word}
use Rattle.tls_flow.specs.Grammar.{is_noise, is_noise_of}
use Rattle.tls_flow.specs.Table.{next_after, row_or, rule, rule_by, unended_rule, step, outcome_at, is_waiting}
use Rattle.tls_flow.specs.declared.symbol.Symbol.{Symbol}
use Rattle.tls_flow.specs.declared.symbol.Kind.{Kind}
use Rattle.tls_flow.specs.declared.symbol.Kind.TheVariants as kind
use Rattle.tls_flow.specs.declared.symbol.Direction.{Direction}
use Rattle.tls_flow.specs.declared.state.State.{State}
use Rattle.tls_flow.specs.declared.state.Outcome.{Outcome}
use Rattle.tls_flow.specs.declared.state.Outcome.TheVariants as outcome
use Rattle.tls_flow.specs.declared.table.Row.{Row}
use Rattle.tls_flow.specs.declared.table.TheConstants.{ROWS}
use Rattle.tls_flow.specs.contracts.state.State.{the_type as states}
use Rattle.tls_flow.specs.contracts.symbol.Kind.{the_type as kinds}
use Rattle.tls_flow.specs.contracts.symbol.Direction.{the_type as directions}
use Rattle.tls_flow.proofs.NumberLemmas.{rows_of, next_of, next_is}
use Rattle.tls_flow.proofs.SymbolLemmas.{symbol_is}
use denote.Enum.Bare.{sameb, same_true}

pub true_or_false : (t : Bool) → (t ≡ true) ⊎ (t ≡ false)
true_or_false true = inl refl
true_or_false false = inr refl

-- A row that is found passes what all rows pass.
abbrev pub row : State → Kind → Direction → State → Row
row q k d s = record { state = q; kind = k; direction = d; next = s }

module _ (f : Row → Bool) (q : State) (k : Kind) (d : Direction) where
  same_row : (r : Row)
      → (sameb states r.state q && (sameb kinds r.kind k && sameb directions r.direction d)) ≡ true
      → f r ≡ true → f (row q k d r.next) ≡ true
  same_row r t h =
      let a : (sameb states r.state q ≡ true)
      × ((sameb kinds r.kind k && sameb directions r.direction d) ≡ true) = both_and _ _ t in
      let b : (sameb kinds r.kind k ≡ true) × (sameb directions r.direction d ≡ true) =
      both_and _ _ a.1 in
      subst (λ x. f (row q k x r.next) ≡ true) (same_true directions tt r.direction d b.1)
      (subst (λ x. f (row q x r.direction r.next) ≡ true) (same_true kinds tt r.kind k b.0)
      (subst (λ x. f (row x r.kind r.direction r.next) ≡ true)
      (same_true states tt r.state q a.0) h))

  found_by : (t : Bool) (r : Row) (rest : Option State) (s : State)
      → (t ≡ true → f (row q k d r.next) ≡ true)
      → (rest ≡ Some s → f (row q k d s) ≡ true) → (if t then Some r.next else rest) ≡ Some s
      → f (row q k d s) ≡ true
  found_by true r rest s g h e = let i : r.next ≡ s = cc in
      subst (λ x. f (row q k d x) ≡ true) i (g refl)
  found_by false r rest s g h e = h e

  found_passes : (rows : List Row) (s : State) → list_all f rows ≡ true
      → next_after rows q k d ≡ Some s
      → f (row q k d s) ≡ true
  found_passes [] s t e = cc
  found_passes (r ∷ rows) s t e =
      let a : (f r ≡ true) × (list_all f rows ≡ true) = both_and (f r) (list_all f rows) t in
      found_by (sameb states r.state q && (sameb kinds r.kind k && sameb directions r.direction d))
      r
      (next_after rows q k d) s (λ u. same_row r u a.0) (found_passes rows s a.1) e

abbrev pub is_some : Option State → Bool
is_some (Some s) = true
is_some None = false

abbrev pub has_symbol : List Row → Symbol → Bool
has_symbol rows l = is_some (next_of rows l)

abbrev pub GoesByRow : State → Symbol → Type 0
GoesByRow q l =
    (s : State) × (step q l ≡ s) × (has_symbol (rows_of q) l ≡ true)
    × ((f : Row → Bool) → list_all f ROWS ≡ true → f (row q l.kind l.direction s) ≡ true)

abbrev pub GoesByRule : State → Symbol → Type 0
GoesByRule q l = (step q l ≡ rule q l.kind l.direction) × (has_symbol (rows_of q) l ≡ false)

goes_by : (q : State) (l : Symbol) (n : Option State) → next_after ROWS q l.kind l.direction ≡ n
    → GoesByRow q l ⊎ GoesByRule q l
goes_by q l (Some s) e = inl (
  s,
  ap (λ o. row_or o (rule q l.kind l.direction)) e,
  ap is_some (sym (next_is q l) ∙ e),
  λ f t. found_passes f q l.kind l.direction ROWS s t e,
)
goes_by q l None e =
    inr (ap (λ o. row_or o (rule q l.kind l.direction)) e, ap is_some (sym (next_is q l) ∙ e))

pub goes : (q : State) (l : Symbol) → GoesByRow q l ⊎ GoesByRule q l
goes q l = goes_by q l (next_after ROWS q l.kind l.direction) refl

-- Classes of outcomes.
abbrev pub is_done : Outcome → Bool
is_done outcome.Full = true
is_done outcome.Resumed = true
is_done (outcome.Tls13 retried early) = true
is_done _ = false

abbrev pub is_alive : Outcome → Bool
is_alive o = is_waiting o || is_done o

pub waiting_is : (o : Outcome) → is_waiting o ≡ true → o ≡ outcome.Waiting
waiting_is = elim [ outcome.Waiting ↦ λ h. refl | _ ↦ λ h. cc ]

-- The kinds that stop a handshake, and their outcomes: a fatal alert, and an unknown message.
abbrev pub stopping : Bool → Kind
stopping true = kind.Fatal
stopping false = kind.Unknown

abbrev pub stopped : Bool → Outcome
stopped true = outcome.BrokenOff
stopped false = outcome.Unknown

abbrev is_stopping : Kind → Bool
is_stopping kind.Fatal = true
is_stopping kind.Unknown = true
is_stopping _ = false

-- Each row starts at a waiting state, has neither noise nor a kind that stops a handshake, and
-- leads to no failure.
abbrev row_test : Row → Bool
row_test r = (is_waiting (outcome_at r.state) && is_alive (outcome_at r.next)) &&
    (not (is_noise_of r.kind r.direction) && not (is_stopping r.kind))

rows_pass : list_all row_test ROWS ≡ true
rows_pass = refl

pub not_true : (t : Bool) → not t ≡ true → t ≡ false
not_true true h = cc
not_true false h = refl

module _ (q : State) (l : Symbol) (r : GoesByRow q l) where
  parts : ((is_waiting (outcome_at q) && is_alive (outcome_at r.0)) ≡ true)
      × ((not (is_noise l) && not (is_stopping l.kind)) ≡ true)
  parts = both_and _ _ (r.3 row_test rows_pass)

  pub row_waits : is_waiting (outcome_at q) ≡ true
  row_waits = (both_and (is_waiting (outcome_at q)) (is_alive (outcome_at r.0)) parts.0).0

  pub row_lives : is_alive (outcome_at r.0) ≡ true
  row_lives = (both_and (is_waiting (outcome_at q)) (is_alive (outcome_at r.0)) parts.0).1

  pub row_is_sent : is_noise l ≡ false
  row_is_sent =
      not_true (is_noise l) (both_and (not (is_noise l)) (not (is_stopping l.kind)) parts.1).0

  row_goes_on : is_stopping l.kind ≡ false
  row_goes_on =
      not_true (is_stopping l.kind)
      (both_and (not (is_noise l)) (not (is_stopping l.kind)) parts.1).1

-- A final state stays, whatever follows.
rule_stays : (o : Outcome) (q : State) (k : Kind) (d : Direction) → is_waiting o ≡ false
    → rule_by o q k d ≡ q
rule_stays = elim [ outcome.Waiting ↦ λ q k d h. cc | _ ↦ λ q k d h. refl ]

pub end_stays : (q : State) (l : Symbol) → is_waiting (outcome_at q) ≡ false → step q l ≡ q
end_stays q l h = elim (goes q l) [
  | inl r ↦ let k : is_waiting (outcome_at q) ≡ true = row_waits q l r in absurd cc
  | inr r ↦ r.0 ∙ rule_stays (outcome_at q) q l.kind l.direction h
]

pub run_stays : (q : State) (w : Word) → is_waiting (outcome_at q) ≡ false → run step q w ≡ q
run_stays q [] h = refl
run_stays q (l ∷ w) h = ap (λ r. run step r w) (end_stays q l h) ∙ run_stays q w h

-- The rule at a waiting state.
pub rule_waiting : (q : State) (l : Symbol) → is_waiting (outcome_at q) ≡ true
    → rule q l.kind l.direction ≡ unended_rule q l.kind (is_noise l)
rule_waiting q l h = ap (λ o. rule_by o q l.kind l.direction) (waiting_is (outcome_at q) h)

-- What stops a handshake.
alive_not_stopped : (t : Bool) (o : Outcome) → is_alive o ≡ true → o ≡ stopped t → ⊥
alive_not_stopped true o h e = let k : is_alive outcome.BrokenOff ≡ true =
    subst (λ p. is_alive p ≡ true) e h in cc
alive_not_stopped false o h e = let k : is_alive outcome.Unknown ≡ true =
    subst (λ p. is_alive p ≡ true) e h in cc

alive_if_waiting : (o : Outcome) → is_waiting o ≡ true → is_alive o ≡ true
alive_if_waiting o h = ap (λ t. t || is_done o) h

not_other : (t : Bool) → outcome.NoHandshake ≡ stopped t → ⊥
not_other true e = cc
not_other false e = cc

fatal_stops : (t : Bool) → outcome.BrokenOff ≡ stopped t → kind.Fatal ≡ stopping t
fatal_stops true e = refl
fatal_stops false e = cc

unknown_stops : (t : Bool) → outcome.Unknown ≡ stopped t → kind.Unknown ≡ stopping t
unknown_stops true e = cc
unknown_stops false e = refl

unended_stops : (t : Bool) (q : State) (k : Kind) → outcome_at (unended_rule q k false) ≡ stopped t
    → k ≡ stopping t
unended_stops t q = elim [
  | kind.Fatal ↦ fatal_stops t
  | kind.Unknown ↦ unknown_stops t
  | _ ↦ λ e. absurd (not_other t e)
]

rule_stops : (t n : Bool) (q : State) (k : Kind) → is_waiting (outcome_at q) ≡ true
    → outcome_at (unended_rule q k n) ≡ stopped t → k ≡ stopping t
rule_stops t true q k h e =
    absurd (alive_not_stopped t (outcome_at q) (alive_if_waiting (outcome_at q) h) e)
rule_stops t false q k h e = unended_stops t q k e

pub stopped_by : (t : Bool) (q : State) (l : Symbol) → is_waiting (outcome_at q) ≡ true
    → outcome_at (step q l) ≡ stopped t → l ≡ symbol (stopping t) l.direction
stopped_by t q l h e = elim (goes q l) [
  | inl r ↦ absurd
      (alive_not_stopped t (outcome_at r.0) (row_lives q l r) (ap outcome_at (sym r.1) ∙ e))
  | inr r ↦ symbol_is l (symbol (stopping t) l.direction)
      (rule_stops t (is_noise l) q l.kind h (ap outcome_at (sym (r.0 ∙ rule_waiting q l h)) ∙ e))
      refl
]

abbrev pub stopped_if_waiting : Bool → Outcome → Outcome
stopped_if_waiting t outcome.Waiting = stopped t
stopped_if_waiting t o = o

is_stopping_kind : (t : Bool) → is_stopping (stopping t) ≡ true
is_stopping_kind true = refl
is_stopping_kind false = refl

stops_waiting : (t : Bool) (q : State) (d : Direction)
    → outcome_at (unended_rule q (stopping t) (is_noise_of (stopping t) d)) ≡ stopped t
stops_waiting true q d = refl
stops_waiting false q d = refl

rule_by_stopping : (t : Bool) (q : State) (d : Direction) (o : Outcome) → outcome_at q ≡ o
    → outcome_at (rule_by o q (stopping t) d) ≡ stopped_if_waiting t o
rule_by_stopping t q d = elim [ outcome.Waiting ↦ λ e. stops_waiting t q d | _ ↦ λ e. e ]

pub stopping_stops : (t : Bool) (q : State) (d : Direction)
    → outcome_at (step q (symbol (stopping t) d)) ≡ stopped_if_waiting t (outcome_at q)
stopping_stops t q d = elim (goes q (symbol (stopping t) d)) [
  | inl r ↦ let k : is_stopping (stopping t) ≡ false = row_goes_on q (symbol (stopping t) d) r in
      let m : is_stopping (stopping t) ≡ true = is_stopping_kind t in absurd cc
  | inr r ↦ ap outcome_at r.0 ∙ rule_by_stopping t q d (outcome_at q) refl
]

-- What a state waits for: the symbols of its rows, with which a handshake is complete or can still
-- come.
unended_fails : (q : State) (k : Kind) → is_alive (outcome_at (unended_rule q k false)) ≡ false
unended_fails q = elim [ kind.Fatal ↦ refl | kind.Unknown ↦ refl | _ ↦ refl ]

rule_fails : (q : State) (n : Bool) (k : Kind)
    → (not n && is_alive (outcome_at (unended_rule q k n))) ≡ false
rule_fails q true k = refl
rule_fails q false k = unended_fails q k

rule_awaits : (o : Outcome) (q : State) (k : Kind) (d : Direction)
    → (is_waiting o && (not (is_noise_of k d) && is_alive (outcome_at (rule_by o q k d)))) ≡ false
rule_awaits =
    elim [ outcome.Waiting ↦ λ q k d. rule_fails q (is_noise_of k d) k | _ ↦ λ q k d. refl ]

abbrev pub awaits : State → Symbol → Bool
awaits q l = is_waiting (outcome_at q) && (not (is_noise l) && is_alive (outcome_at (step q l)))

all_three : (a b c : Bool) → a ≡ true → b ≡ false → c ≡ true → (a && (not b && c)) ≡ true
all_three true false c e f g = g
all_three true true c e f g = cc
all_three false b c e f g = cc

pub symbol_awaited : (q : State) (l : Symbol) → has_symbol (rows_of q) l ≡ awaits q l
symbol_awaited q l = elim (goes q l) [
  | inl r ↦ r.2
      ∙ sym (all_three (is_waiting (outcome_at q)) (is_noise l) (is_alive (outcome_at (step q l)))
      (row_waits q l r) (row_is_sent q l r)
      (ap (λ s. is_alive (outcome_at s)) r.1 ∙ row_lives q l r))
  | inr r ↦ r.1
      ∙ sym (ap (λ s. is_waiting (outcome_at q) && (not (is_noise l) && is_alive (outcome_at s)))
      r.0
      ∙ rule_awaits (outcome_at q) q l.kind l.direction)
]

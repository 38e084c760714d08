-- What each state still waits for, given a word that leads to it.
use Rattle.std.proofs.Common.{
  ◌≡◌,
  inl,
  inr,
  [],
  ◌∷◌,
  Bool,
  true,
  false,
  not,
  ◌&&◌,
  ◌||◌,
  cond,
  if◌then◌else◌,
  refl,
  sym,
  ◌∙◌,
  ap,
}
use Rattle.std.specs.List.{list_all}
use Rattle.tls_words.specs.Words.{Pattern, none, all, chain, Pattern-discrete}
use Rattle.tls_words.proofs.PatternLemmas.{both_and, has_empty, has_word, behind, behind_all, begins_by, none_behind}
use Rattle.tls_words.proofs.SymbolLemmas.{is_yes, yes_is}
use Rattle.tls_flow.specs.Symbols.{symbol, Word}
use Rattle.tls_flow.specs.Grammar.{full, resumed, tls13, is_noise}
use Rattle.tls_flow.specs.Table.{step, outcome_at, is_waiting, unended_rule}
use Rattle.tls_flow.specs.declared.symbol.Symbol.{Symbol}
use Rattle.tls_flow.specs.declared.symbol.Kind.{Kind}
use Rattle.tls_flow.specs.declared.symbol.Kind.TheVariants as kind
use Rattle.tls_flow.specs.declared.symbol.Direction.TheVariants.{ToServer, FromServer}
use Rattle.tls_flow.specs.declared.state.State.{State}
use Rattle.tls_flow.specs.declared.state.State.TheVariants as state
use Rattle.tls_flow.specs.declared.state.Outcome.{Outcome}
use Rattle.tls_flow.specs.declared.state.Outcome.TheVariants as outcome
use Rattle.tls_flow.specs.declared.table.Row.{Row}
use Rattle.tls_flow.specs.declared.table.TheConstants.{ROWS}
use Rattle.tls_flow.proofs.NumberLemmas.{AllStatesPass, state_passes, rows_of}
use Rattle.tls_flow.proofs.SymbolLemmas.{same_symbol}
use Rattle.tls_flow.proofs.StepLemmas.{
  true_or_false,
  is_alive,
  has_symbol,
  GoesByRow,
  GoesByRule,
  goes,
  row_is_sent,
  rule_waiting,
  end_stays,
}

-- A word that leads to each state. For one that waits for nothing, no handshake begins with the
-- word.
abbrev after_hello : Word → Word
after_hello w = symbol kind.ClientHello ToServer ∷ w

abbrev after_server_hello : Word → Word
after_server_hello w = after_hello (symbol kind.ServerHello FromServer ∷ w)

abbrev after_certificate : Word → Word
after_certificate w = after_server_hello (symbol kind.Certificate FromServer ∷ w)

abbrev after_request : Word → Word
after_request w = after_certificate (symbol kind.CertificateRequest FromServer ∷ w)

abbrev after_change : Word → Word
after_change w =
    after_server_hello (symbol kind.ServerDone FromServer ∷ symbol kind.ClientKeyExchange ToServer
    ∷ symbol kind.ChangeCipherSpec ToServer ∷ w)

abbrev road : State → Word
road state.Start = []
road state.Hello = after_hello []
road state.Verify = after_hello (symbol kind.HelloVerifyRequest FromServer ∷ [])
road state.VerifiedHello =
    after_hello (symbol kind.HelloVerifyRequest FromServer ∷ symbol kind.ClientHello ToServer ∷ [])
road state.ChangedHello = after_hello (symbol kind.ChangeCipherSpec ToServer ∷ [])
road state.EarlyHello = after_hello (symbol kind.Encrypted ToServer ∷ [])
road state.Retry = after_hello (symbol kind.HelloRetryRequest FromServer ∷ [])
road state.EarlyRetry =
    after_hello (symbol kind.HelloRetryRequest FromServer ∷ symbol kind.Encrypted ToServer ∷ [])
road state.SecondHello =
    after_hello (symbol kind.HelloRetryRequest FromServer ∷ symbol kind.ClientHello ToServer ∷ [])
road state.EarlySecondHello = after_hello
    (symbol kind.HelloRetryRequest FromServer ∷ symbol kind.Encrypted ToServer
    ∷ symbol kind.ClientHello ToServer ∷ [])
road state.ServerHello = after_server_hello []
road state.Certificate = after_certificate []
road state.CertificateStatus = after_certificate (symbol kind.CertificateStatus FromServer ∷ [])
road state.CertifiedKeys = after_certificate (symbol kind.ServerKeyExchange FromServer ∷ [])
road state.Keys = after_server_hello (symbol kind.ServerKeyExchange FromServer ∷ [])
road state.Request = after_request []
road state.RequestDone = after_request (symbol kind.ServerDone FromServer ∷ [])
road state.ClientCertificate =
    after_request (symbol kind.ServerDone FromServer ∷ symbol kind.Certificate ToServer ∷ [])
road state.ClientKeys =
    after_request (symbol kind.ServerDone FromServer ∷ symbol kind.Certificate ToServer
    ∷ symbol kind.ClientKeyExchange ToServer ∷ [])
road state.Done = after_server_hello (symbol kind.ServerDone FromServer ∷ [])
road state.ClientDone = after_server_hello
    (symbol kind.ServerDone FromServer ∷ symbol kind.ClientKeyExchange ToServer ∷ [])
road state.ClientChange = after_change []
road state.Ticket = after_change (symbol kind.NewSessionTicket FromServer ∷ [])
road state.ResumedTicket = after_server_hello (symbol kind.NewSessionTicket FromServer ∷ [])
road state.ServerChange = after_server_hello (symbol kind.ChangeCipherSpec FromServer ∷ [])
road state.Full = after_change (symbol kind.ChangeCipherSpec FromServer ∷ [])
road state.Resumed =
    after_server_hello
    (symbol kind.ChangeCipherSpec FromServer ∷ symbol kind.ChangeCipherSpec ToServer ∷ [])
road state.Tls13 = after_hello (symbol kind.ServerHello13 FromServer ∷ [])
road state.EarlyTls13 =
    after_hello (symbol kind.Encrypted ToServer ∷ symbol kind.ServerHello13 FromServer ∷ [])
road state.RetriedTls13 =
    after_hello (symbol kind.HelloRetryRequest FromServer ∷ symbol kind.ClientHello ToServer
    ∷ symbol kind.ServerHello13 FromServer ∷ [])
road state.EarlyRetriedTls13 = after_hello
    (symbol kind.HelloRetryRequest FromServer ∷ symbol kind.Encrypted ToServer
    ∷ symbol kind.ClientHello ToServer
    ∷ symbol kind.ServerHello13 FromServer ∷ [])
road state.BrokenOff = symbol kind.Other ToServer ∷ []
road state.Unknown = symbol kind.Other ToServer ∷ []
road state.NoHandshake = symbol kind.Other ToServer ∷ []

-- The pattern of each outcome's handshakes, if it has any.
abbrev pub pattern_of : Outcome → Pattern Symbol
pattern_of outcome.Full = full
pattern_of outcome.Resumed = resumed
pattern_of (outcome.Tls13 retried early) = tls13 retried early
pattern_of _ = none

abbrev pub waits : Pattern Symbol → State → Pattern Symbol
waits p q = behind_all same_symbol (chain p all) (road q)

abbrev same_pattern : (p q : Pattern Symbol) → Dec (p ≡ q)
same_pattern = Pattern-discrete same_symbol

-- A test that all rows pass for each form: the row leads to what its state waits for after the
-- row's symbol.
abbrev row_test : Pattern Symbol → Row → Bool
row_test p r = is_yes (same_pattern (waits p r.next)
    (behind same_symbol (waits p r.state) (symbol r.kind r.direction)))

abbrev RowsPass : Outcome → Type 0
RowsPass o = list_all (row_test (pattern_of o)) ROWS ≡ true

tls13_rows : (retried early : Bool) → RowsPass (outcome.Tls13 retried early)
tls13_rows true true = refl
tls13_rows true false = refl
tls13_rows false true = refl
tls13_rows false false = refl

rows_pass : (o : Outcome) → RowsPass o
rows_pass =
    elim [ outcome.Tls13 retried early ↦ tls13_rows retried early | outcome.Full ↦ refl | _ ↦ refl ]

-- Equality of two tests.
abbrev same_bool : Bool → Bool → Bool
same_bool true b = b
same_bool false b = not b

both_same : (a b : Bool) → same_bool a b ≡ true → a ≡ b
both_same true b h = sym h
both_same false true h = cc
both_same false false h = refl

-- Whether two outcomes are of the same handshake.
abbrev pub is_it : Outcome → Outcome → Bool
is_it outcome.Full outcome.Full = true
is_it outcome.Resumed outcome.Resumed = true
is_it (outcome.Tls13 a b) (outcome.Tls13 c d) = same_bool a c && same_bool b d
is_it _ _ = false

-- What a form waits for at a state, as a test of each. At a waiting state, each word begins with a
-- symbol of its rows; at a final state it is every word or none. The empty word matches exactly if
-- that handshake is done, and some word only if one is done or can still come.
abbrev is_flat : Pattern Symbol → Bool
is_flat none = true
is_flat all = true
is_flat _ = false

abbrev begins_well : State → Pattern Symbol → Bool
begins_well q x =
    if is_waiting (outcome_at q) then begins_by (has_symbol (rows_of q)) x else is_flat x

abbrev pattern_test : Outcome → State → Pattern Symbol → Bool
pattern_test o q x =
    begins_well q x && (same_bool (has_empty x) (is_it o (outcome_at q))
    && (not (has_word x) || is_alive (outcome_at q)))

abbrev state_test : Outcome → State → Bool
state_test o q = pattern_test o q (waits (pattern_of o) q)

tls13_states : (retried early : Bool) → AllStatesPass (state_test (outcome.Tls13 retried early))
tls13_states true true = refl
tls13_states true false = refl
tls13_states false true = refl
tls13_states false false = refl

states_pass : (o : Outcome) → AllStatesPass (state_test o)
states_pass = elim [
  | outcome.Tls13 retried early ↦ tls13_states retried early
  | outcome.Full ↦ refl
  | _ ↦ refl
]

-- After a failure nothing can come.
tls13_fails : (retried early : Bool)
    → behind_all same_symbol (chain (tls13 retried early) all) (symbol kind.Other ToServer ∷ [])
    ≡ none
tls13_fails true true = refl
tls13_fails true false = refl
tls13_fails false true = refl
tls13_fails false false = refl

form_fails : (o : Outcome)
    → behind_all same_symbol (chain (pattern_of o) all) (symbol kind.Other ToServer ∷ []) ≡ none
form_fails = elim [
  | outcome.Tls13 retried early ↦ tls13_fails retried early
  | outcome.Full ↦ refl
  | _ ↦ refl
]

fails_for_good : (o : Outcome) (q : State) (k : Kind)
    → waits (pattern_of o) (unended_rule q k false) ≡ none
fails_for_good o q =
    elim [ kind.Fatal ↦ form_fails o | kind.Unknown ↦ form_fails o | _ ↦ form_fails o ]

module _ (o : Outcome) (q : State) where
  parts : (begins_well q (waits (pattern_of o) q) ≡ true)
      × ((same_bool (has_empty (waits (pattern_of o) q)) (is_it o (outcome_at q))
      && (not (has_word (waits (pattern_of o) q)) || is_alive (outcome_at q))) ≡ true)
  parts = both_and _ _ (state_passes (state_test o) (states_pass o) q)

  begins_at : begins_well q (waits (pattern_of o) q) ≡ true
  begins_at = parts.0

  pub front_at : has_empty (waits (pattern_of o) q) ≡ is_it o (outcome_at q)
  front_at = both_same _ _
      (both_and (same_bool (has_empty (waits (pattern_of o) q)) (is_it o (outcome_at q)))
      (not (has_word (waits (pattern_of o) q)) || is_alive (outcome_at q)) parts.1).0

  pub alive_at : (not (has_word (waits (pattern_of o) q)) || is_alive (outcome_at q)) ≡ true
  alive_at = (both_and (same_bool (has_empty (waits (pattern_of o) q)) (is_it o (outcome_at q)))
      (not (has_word (waits (pattern_of o) q)) || is_alive (outcome_at q)) parts.1).1

-- A step by a row, by the rule, and from a final state.
module _ (o : Outcome) (q : State) (l : Symbol) where
  abbrev Follows : State → Type 0
  Follows s =
      waits (pattern_of o) s
      ≡ cond (is_noise l) (waits (pattern_of o) q) (behind same_symbol (waits (pattern_of o) q) l)

  by_row : GoesByRow q l → Follows (step q l)
  by_row r =
      ap (waits (pattern_of o)) r.1
      ∙ yes_is (same_pattern (waits (pattern_of o) r.0)
      (behind same_symbol (waits (pattern_of o) q) l))
      (r.3 (row_test (pattern_of o)) (rows_pass o))
      ∙ ap (λ t. cond t (waits (pattern_of o) q) (behind same_symbol (waits (pattern_of o) q) l))
      (sym (row_is_sent q l r))

  begins_waiting : (t : Bool) (x : Pattern Symbol) → t ≡ true
      → (if t then begins_by (has_symbol (rows_of q)) x else is_flat x) ≡ true
      → begins_by (has_symbol (rows_of q)) x ≡ true
  begins_waiting true x h e = e
  begins_waiting false x h e = cc

  flat_ended : (t : Bool) (x : Pattern Symbol) → t ≡ false
      → (if t then begins_by (has_symbol (rows_of q)) x else is_flat x) ≡ true → is_flat x ≡ true
  flat_ended true x h e = cc
  flat_ended false x h e = e

  by_noise : (n : Bool) → behind same_symbol (waits (pattern_of o) q) l ≡ none
      → waits (pattern_of o) (unended_rule q l.kind n)
      ≡ cond n (waits (pattern_of o) q) (behind same_symbol (waits (pattern_of o) q) l)
  by_noise true e = refl
  by_noise false e = fails_for_good o q l.kind ∙ sym e

  by_rule : is_waiting (outcome_at q) ≡ true → GoesByRule q l → Follows (step q l)
  by_rule h r =
      ap (waits (pattern_of o)) (r.0 ∙ rule_waiting q l h)
      ∙ by_noise (is_noise l)
      (none_behind same_symbol (has_symbol (rows_of q)) l r.1 (waits (pattern_of o) q)
      (begins_waiting (is_waiting (outcome_at q)) (waits (pattern_of o) q) h (begins_at o q)))

  flat_behind : (x : Pattern Symbol) → is_flat x ≡ true → x ≡ behind same_symbol x l
  flat_behind = elim [ none ↦ λ h. refl | all ↦ λ h. refl | _ ↦ λ h. cc ]

  flat_stays : (n : Bool) (x : Pattern Symbol) → is_flat x ≡ true
      → x ≡ cond n x (behind same_symbol x l)
  flat_stays true x h = refl
  flat_stays false x h = flat_behind x h

  from_end : is_waiting (outcome_at q) ≡ false → Follows (step q l)
  from_end h =
      ap (waits (pattern_of o)) (end_stays q l h)
      ∙ flat_stays (is_noise l) (waits (pattern_of o) q)
      (flat_ended (is_waiting (outcome_at q)) (waits (pattern_of o) q) h (begins_at o q))

  pub follows : Follows (step q l)
  follows = elim (true_or_false (is_waiting (outcome_at q))) [
    | inl h ↦ elim (goes q l) [ inl r ↦ by_row r | inr r ↦ by_rule h r ]
    | inr h ↦ from_end h
  ]

-- States, kinds and directions as numbers: numbers compare at once, where comparing tags counts up
-- to them first.
use Rattle.std.proofs.Common.{
  ◌≡◌,
  ℕ,
  List,
  [],
  ◌∷◌,
  Option,
  Some,
  None,
  Bool,
  true,
  false,
  ◌&&◌,
  if◌then◌else◌,
  refl,
  ◌∙◌,
  ap,
}
use Rattle.std.specs.List.{list_all}
use Rattle.tls_words.proofs.SymbolLemmas.{decided, is_in, passes_in}
use Rattle.tls_flow.specs.Table.{next_after, row_or, rule, step}
use Rattle.tls_flow.specs.declared.symbol.Symbol.{Symbol}
use Rattle.tls_flow.specs.declared.symbol.Kind.{Kind}
use Rattle.tls_flow.specs.declared.symbol.Kind.TheVariants as kind
use Rattle.tls_flow.specs.declared.symbol.Direction.{Direction}
use Rattle.tls_flow.specs.declared.symbol.Direction.TheVariants.{ToServer, FromServer}
use Rattle.tls_flow.specs.declared.state.State.{State}
use Rattle.tls_flow.specs.declared.state.State.TheVariants as state
use Rattle.tls_flow.specs.declared.table.Row.{Row}
use Rattle.tls_flow.specs.declared.table.TheConstants.{ROWS}
use Rattle.tls_flow.specs.contracts.state.State.{the_type as states}
use Rattle.tls_flow.specs.contracts.symbol.Kind.{the_type as kinds}
use Rattle.tls_flow.specs.contracts.symbol.Direction.{the_type as directions}
use denote.Enum.Bare.{sameb, same_true}
use denote.Enum.Declared.{tag_of}
use lib.Dec.{eqb}

abbrev pub state_number : State → ℕ
state_number state.Start = 0
state_number state.Hello = 1
state_number state.Verify = 2
state_number state.VerifiedHello = 3
state_number state.ChangedHello = 4
state_number state.EarlyHello = 5
state_number state.Retry = 6
state_number state.EarlyRetry = 7
state_number state.SecondHello = 8
state_number state.EarlySecondHello = 9
state_number state.ServerHello = 10
state_number state.Certificate = 11
state_number state.CertificateStatus = 12
state_number state.CertifiedKeys = 13
state_number state.Keys = 14
state_number state.Request = 15
state_number state.RequestDone = 16
state_number state.ClientCertificate = 17
state_number state.ClientKeys = 18
state_number state.Done = 19
state_number state.ClientDone = 20
state_number state.ClientChange = 21
state_number state.Ticket = 22
state_number state.ResumedTicket = 23
state_number state.ServerChange = 24
state_number state.Full = 25
state_number state.Resumed = 26
state_number state.Tls13 = 27
state_number state.EarlyTls13 = 28
state_number state.RetriedTls13 = 29
state_number state.EarlyRetriedTls13 = 30
state_number state.BrokenOff = 31
state_number state.Unknown = 32
state_number state.NoHandshake = 33

abbrev pub kind_number : Kind → ℕ
kind_number kind.HelloRequest = 0
kind_number kind.ClientHello = 1
kind_number kind.HelloVerifyRequest = 2
kind_number kind.ServerHello = 3
kind_number kind.HelloRetryRequest = 4
kind_number kind.ServerHello13 = 5
kind_number kind.NewSessionTicket = 6
kind_number kind.Certificate = 7
kind_number kind.ServerKeyExchange = 8
kind_number kind.CertificateRequest = 9
kind_number kind.ServerDone = 10
kind_number kind.CertificateVerify = 11
kind_number kind.ClientKeyExchange = 12
kind_number kind.CertificateStatus = 13
kind_number kind.ChangeCipherSpec = 14
kind_number kind.Encrypted = 15
kind_number kind.Warning = 16
kind_number kind.NoCertificate = 17
kind_number kind.Fatal = 18
kind_number kind.Heartbeat = 19
kind_number kind.Unknown = 20
kind_number kind.Other = 21

abbrev pub direction_number : Direction → ℕ
direction_number FromServer = 0
direction_number ToServer = 1

pub state_tag : (q : State) → tag_of states q ≡ state_number q
state_tag = elim [ state.Start ↦ refl | _ ↦ refl ]

pub kind_tag : (k : Kind) → tag_of kinds k ≡ kind_number k
kind_tag = elim [ kind.HelloRequest ↦ refl | _ ↦ refl ]

pub direction_tag : (d : Direction) → tag_of directions d ≡ direction_number d
direction_tag = elim [ ToServer ↦ refl | _ ↦ refl ]

pub same_states : (a b : State) → sameb states a b ≡ eqb (state_number a) (state_number b)
same_states a b = ap (λ n. eqb n (tag_of states b)) (state_tag a)
    ∙ ap (eqb (state_number a)) (state_tag b)

pub same_kinds : (a b : Kind) → sameb kinds a b ≡ eqb (kind_number a) (kind_number b)
same_kinds a b = ap (λ n. eqb n (tag_of kinds b)) (kind_tag a)
    ∙ ap (eqb (kind_number a)) (kind_tag b)

pub same_directions : (a b : Direction)
    → sameb directions a b ≡ eqb (direction_number a) (direction_number b)
same_directions a b =
    ap (λ n. eqb n (tag_of directions b)) (direction_tag a)
    ∙ ap (eqb (direction_number a)) (direction_tag b)

pub same_number : (a b : State) → eqb (state_number a) (state_number b) ≡ true → a ≡ b
same_number a b t = same_true states tt a b (same_states a b ∙ t)

-- All states, and a test that all of them pass.
abbrev same_state : (a b : State) → Dec (a ≡ b)
same_state a b = decided states tt a b (eqb (state_number a) (state_number b)) (same_states a b)

abbrev all_states : List State
all_states =
    state.Start ∷ state.Hello ∷ state.Verify ∷ state.VerifiedHello ∷ state.ChangedHello
    ∷ state.EarlyHello ∷ state.Retry ∷
    state.EarlyRetry ∷ state.SecondHello ∷ state.EarlySecondHello ∷ state.ServerHello
    ∷ state.Certificate ∷
    state.CertificateStatus ∷ state.CertifiedKeys ∷ state.Keys ∷ state.Request ∷ state.RequestDone ∷
    state.ClientCertificate ∷ state.ClientKeys ∷ state.Done ∷ state.ClientDone ∷ state.ClientChange
    ∷ state.Ticket ∷
    state.ResumedTicket ∷ state.ServerChange ∷ state.Full ∷ state.Resumed ∷ state.Tls13
    ∷ state.EarlyTls13 ∷
    state.RetriedTls13 ∷ state.EarlyRetriedTls13 ∷ state.BrokenOff ∷ state.Unknown
    ∷ state.NoHandshake ∷ []

state_in : (q : State) → is_in same_state all_states q ≡ true
state_in = elim [ state.Start ↦ refl | _ ↦ refl ]

abbrev pub AllStatesPass : (State → Bool) → Type 0
AllStatesPass f = list_all f all_states ≡ true

pub state_passes : (f : State → Bool) → AllStatesPass f → (q : State) → f q ≡ true
state_passes f t q = passes_in same_state f all_states q t (state_in q)

-- The rows of a state, and where the first row with a symbol leads.
abbrev pub is_symbol : ℕ → ℕ → Row → Bool
is_symbol k d r = eqb (kind_number r.kind) k && eqb (direction_number r.direction) d

abbrev pub rows_at : List Row → ℕ → List Row
rows_at [] q = []
rows_at (r ∷ rows) q = if eqb (state_number r.state) q then r ∷ rows_at rows q else rows_at rows q

abbrev next_by : List Row → ℕ → ℕ → Option State
next_by [] k d = None
next_by (r ∷ rows) k d = if is_symbol k d r then Some r.next else next_by rows k d

abbrev pub rows_of : State → List Row
rows_of q = rows_at ROWS (state_number q)

abbrev pub next_of : List Row → Symbol → Option State
next_of rows l = next_by rows (kind_number l.kind) (direction_number l.direction)

same_row : (r : Row) (q : State) (k : Kind) (d : Direction)
    → (sameb states r.state q && (sameb kinds r.kind k && sameb directions r.direction d))
    ≡ (eqb (state_number r.state) (state_number q)
    && is_symbol (kind_number k) (direction_number d) r)
same_row r q k d =
    ap (λ t. t && (sameb kinds r.kind k && sameb directions r.direction d)) (same_states r.state q)
    ∙ ap (λ t. eqb (state_number r.state) (state_number q) && (t && sameb directions r.direction d))
    (same_kinds r.kind k)
    ∙ ap (λ t. eqb (state_number r.state) (state_number q)
    && (eqb (kind_number r.kind) (kind_number k) && t))
    (same_directions r.direction d)

row_first : (t : Bool) (r : Row) (rows : List Row) (k d : ℕ) (n : Option State)
    → n ≡ next_by rows k d
    → (if t && is_symbol k d r then Some r.next else n) ≡ next_by (if t then r ∷ rows else rows) k d
row_first true r rows k d n h = ap (λ o. if is_symbol k d r then Some r.next else o) h
row_first false r rows k d n h = h

next_among : (rows : List Row) (q : State) (k : Kind) (d : Direction)
    → next_after rows q k d ≡ next_by (rows_at rows (state_number q)) (kind_number k)
    (direction_number d)
next_among [] q k d = refl
next_among (r ∷ rows) q k d =
    ap (λ t. if t then Some r.next else next_after rows q k d) (same_row r q k d)
    ∙ row_first (eqb (state_number r.state) (state_number q)) r (rows_at rows (state_number q))
    (kind_number k)
    (direction_number d) (next_after rows q k d) (next_among rows q k d)

pub next_is : (q : State) (l : Symbol)
    → next_after ROWS q l.kind l.direction ≡ next_of (rows_of q) l
next_is q l = next_among ROWS q l.kind l.direction

-- A step by the rows of its state.
abbrev pub step_by : List Row → State → Symbol → State
step_by rows q l = row_or (next_of rows l) (rule q l.kind l.direction)

pub step_is : (q : State) (l : Symbol) → step q l ≡ step_by (rows_of q) q l
step_is q l = ap (λ o. row_or o (rule q l.kind l.direction)) (next_is q l)

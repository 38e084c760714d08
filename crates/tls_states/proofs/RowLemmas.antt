-- The rows of the table.
use Rattle.std.proofs.Common.{
  ◌≡◌,
  ℕ,
  Option,
  Some,
  None,
  Result,
  Ok,
  Bool,
  true,
  ◌&&◌,
  slice_get,
  Contains,
  lit<,
  refl,
  sym,
  ◌∙◌,
  ap,
}
use Rattle.tls_words.proofs.PatternLemmas.{and_both}
use Rattle.tls_words.proofs.TableLemmas.{one_place}
use Rattle.tls_states.specs.States.{IsOncePlaced}
use Rattle.tls_states.specs.Symbols.{symbol}
use Rattle.tls_states.specs.Steps.{step, rule}
use Rattle.tls_states.specs.Table.{next_after, IsOneRowEach}
use Rattle.tls_states.specs.declared.state.TlsState.{TlsState}
use Rattle.tls_states.specs.declared.state.TlsState.TheVariants as state
use Rattle.tls_states.specs.declared.state.StateChangeError.{StateChangeError}
use Rattle.tls_states.specs.declared.symbol.Kind.{Kind}
use Rattle.tls_states.specs.declared.symbol.Kind.TheVariants as kind
use Rattle.tls_states.specs.declared.symbol.Direction.{Direction}
use Rattle.tls_states.specs.declared.symbol.Direction.TheVariants.{ToServer, FromServer}
use Rattle.tls_states.specs.declared.table.Row.{Row}
use Rattle.tls_states.specs.declared.table.TheConstants.{ROWS}
use Rattle.tls_states.specs.declared.state.TheConstants.{STATES}
use Rattle.tls_states.specs.contracts.state.TlsState.{the_type as states}
use Rattle.tls_states.specs.contracts.symbol.Kind.{the_type as kinds}
use Rattle.tls_states.specs.contracts.symbol.Direction.{the_type as directions}
use denote.Enum.Bare.{sameb, true_same}

-- No two rows have the same state, kind and direction.
abbrev is_like : Row → Row → Bool
is_like r s = sameb states r.state s.state
    && (sameb kinds r.kind s.kind && sameb directions r.direction s.direction)

alike : (r s : Row) → r.state ≡ s.state → r.kind ≡ s.kind → r.direction ≡ s.direction
    → is_like r s ≡ true
alike r s e f g = and_both _ _ (true_same states r.state s.state e)
    (and_both _ _ (true_same kinds r.kind s.kind f)
    (true_same directions r.direction s.direction g))

pub rows_are_one_each : IsOneRowEach ROWS
rows_are_one_each i j r s at_i at_j e f g =
    one_place is_like ROWS refl i j r s at_i at_j (alike r s e f g)
    (alike s r (sym e) (sym f) (sym g))

-- All states, each once.
same_place : (i j : ℕ) (q : TlsState) → slice_get STATES i ≡ Some q
    → slice_get STATES j ≡ Some q → i ≡ j
same_place i j q at_i at_j =
    one_place (sameb states) STATES refl i j q q at_i at_j (true_same states q q refl)
    (true_same states q q refl)

pub each_once : IsOncePlaced STATES
each_once = same_place

pub all_states : (q : TlsState) → Contains STATES q
all_states = elim [
  | state.None ↦ (0, lit< tt, refl)
  | state.ClientHello ↦ (1, lit< tt, refl)
  | state.AskResumeSession ↦ (2, lit< tt, refl)
  | state.ResumeSession ↦ (3, lit< tt, refl)
  | state.ServerHello ↦ (4, lit< tt, refl)
  | state.Certificate ↦ (5, lit< tt, refl)
  | state.CertificateSt ↦ (6, lit< tt, refl)
  | state.ServerKeyExchange ↦ (7, lit< tt, refl)
  | state.ServerHelloDone ↦ (8, lit< tt, refl)
  | state.ClientKeyExchange ↦ (9, lit< tt, refl)
  | state.ClientChangeCipherSpec ↦ (10, lit< tt, refl)
  | state.CRCertRequest ↦ (11, lit< tt, refl)
  | state.CRHelloDone ↦ (12, lit< tt, refl)
  | state.CRCert ↦ (13, lit< tt, refl)
  | state.CRClientKeyExchange ↦ (14, lit< tt, refl)
  | state.CRCertVerify ↦ (15, lit< tt, refl)
  | state.NoCertSKE ↦ (16, lit< tt, refl)
  | state.NoCertHelloDone ↦ (17, lit< tt, refl)
  | state.NoCertCKE ↦ (18, lit< tt, refl)
  | state.PskHelloDone ↦ (19, lit< tt, refl)
  | state.PskCKE ↦ (20, lit< tt, refl)
  | state.SessionEncrypted ↦ (21, lit< tt, refl)
  | state.Alert ↦ (22, lit< tt, refl)
  | state.Finished ↦ (23, lit< tt, refl)
  | state.Invalid ↦ (24, lit< tt, refl)
]

-- A symbol has the effect of its row, or else of a rule.
answered : Option TlsState → Result TlsState StateChangeError → Result TlsState StateChangeError
answered (Some q) r = Ok q
answered None r = r

step_by_table : (q : TlsState) (k : Kind) (d : Direction)
    → answered (next_after ROWS q k d) (rule q k) ≡ step q (symbol k d)
unfolding answered
step_by_table = elim [
  | state.None ↦ elim [
    | kind.HelloRequest ↦ elim [ ToServer ↦ refl | FromServer ↦ refl ]
    | _ ↦
        elim [ ToServer ↦ refl | FromServer ↦ refl ]
  ]
  | _ ↦ elim [
    | kind.HelloRequest ↦ elim [ ToServer ↦ refl | FromServer ↦ refl ]
    | _ ↦
        elim [ ToServer ↦ refl | FromServer ↦ refl ]
  ]
]

stepped : (q : TlsState) (k : Kind) (d : Direction) (next : Option TlsState)
    (r : Result TlsState StateChangeError)
    → next ≡ next_after ROWS q k d → r ≡ answered next (rule q k) → r ≡ step q (symbol k d)
stepped q k d next r n is = is ∙ ap (λ x. answered x (rule q k)) n ∙ step_by_table q k d

pub stepped_by_row : (q : TlsState) (k : Kind) (d : Direction) (next : TlsState)
    → Some next ≡ next_after ROWS q k d
    → Ok next ≡ step q (symbol k d)
unfolding answered
stepped_by_row q k d next n = stepped q k d (Some next) (Ok next) n refl

pub stepped_by_rule : (q : TlsState) (k : Kind) (d : Direction)
    (r : Result TlsState StateChangeError)
    → None ≡ next_after ROWS q k d → r ≡ rule q k → r ≡ step q (symbol k d)
unfolding answered
stepped_by_rule q k d r n is = stepped q k d None r n is

-- What each state still waits for, by a word that leads to it, and what a symbol changes about
-- that.
use Rattle.std.proofs.Common.{◌≡◌, List, [], ◌∷◌, filter, Bool, true, false, cond, not, ◌&&◌, ◌||◌, refl, ap}
use Rattle.std.specs.List.{list_all}
use Rattle.tls_words.specs.Words.{Pattern, all, chain, without_after, Pattern-discrete}
use Rattle.tls_words.proofs.PatternLemmas.{behind, behind_all, both_and}
use Rattle.tls_words.proofs.SymbolLemmas.{is_yes, yes_is}
use Rattle.tls_states.specs.Symbols.{Symbol, symbol, Word}
use Rattle.tls_states.specs.Grammar.{handshake, is_warning, is_hello_request, is_client_hello, clean}
use Rattle.tls_states.specs.Steps.{next, run}
use Rattle.tls_states.specs.declared.symbol.Kind.TheVariants.{
  HelloRequest,
  ClientHello,
  ClientHelloWithId,
  ServerHello,
  ServerHelloV13Draft18,
  NewSessionTicket,
  Certificate,
  ServerKeyExchange,
  CertificateRequest,
  ServerDone,
  CertificateVerify,
  ClientKeyExchange,
  CertificateStatus,
  ChangeCipherSpec,
  Warning,
  Fatal,
  Other,
}
use Rattle.tls_states.specs.declared.symbol.Direction.{Direction}
use Rattle.tls_states.specs.declared.symbol.Direction.TheVariants.{ToServer, FromServer}
use Rattle.tls_states.specs.declared.state.TlsState.{TlsState}
use Rattle.tls_states.specs.declared.state.TlsState.TheVariants as state
use Rattle.tls_states.proofs.SymbolLemmas.{same_symbol, symbols, passes}

-- A word that leads to each state; for a state that waits for nothing, a word that no handshake
-- begins with.
abbrev after_hello : Word → Word
after_hello w = symbol ClientHello ToServer ∷ symbol ServerHello FromServer ∷ w

abbrev after_certificate : Word → Word
after_certificate w = after_hello (symbol Certificate FromServer ∷ w)

abbrev after_request : Word → Word
after_request w = after_certificate (symbol CertificateRequest FromServer ∷ w)

abbrev road : TlsState → Word
road state.None = []
road state.ClientHello = symbol ClientHello ToServer ∷ []
road state.AskResumeSession = symbol ClientHelloWithId ToServer ∷ []
road state.ResumeSession = symbol ClientHelloWithId ToServer ∷ symbol ServerHello FromServer ∷ []
road state.ServerHello = after_hello []
road state.Certificate = after_certificate []
road state.CertificateSt = after_certificate (symbol CertificateStatus FromServer ∷ [])
road state.ServerKeyExchange = after_certificate (symbol ServerKeyExchange FromServer ∷ [])
road state.ServerHelloDone =
    after_certificate (symbol ServerKeyExchange FromServer ∷ symbol ServerDone FromServer ∷ [])
road state.ClientKeyExchange =
    after_certificate (symbol ServerDone FromServer ∷ symbol ClientKeyExchange ToServer ∷ [])
road state.ClientChangeCipherSpec =
    symbol ClientHello ToServer ∷ symbol ServerHelloV13Draft18 FromServer ∷ []
road state.CRCertRequest = after_request []
road state.CRHelloDone = after_request (symbol ServerDone FromServer ∷ [])
road state.CRCert = after_request (symbol ServerDone FromServer ∷ symbol Certificate ToServer ∷ [])
road state.CRClientKeyExchange = after_request
    (symbol ServerDone FromServer ∷ symbol Certificate ToServer ∷ symbol ClientKeyExchange
    ToServer ∷ [])
road state.CRCertVerify =
    after_certificate (symbol ServerDone FromServer ∷ symbol ClientKeyExchange ToServer ∷ [])
road state.NoCertSKE = after_hello (symbol ServerKeyExchange FromServer ∷ [])
road state.NoCertHelloDone =
    after_hello (symbol ServerKeyExchange FromServer ∷ symbol ServerDone FromServer ∷ [])
road state.NoCertCKE =
    after_certificate (symbol ServerDone FromServer ∷ symbol ClientKeyExchange ToServer ∷ [])
road state.PskHelloDone = after_certificate (symbol ServerDone FromServer ∷ [])
road state.PskCKE =
    after_certificate (symbol ServerDone FromServer ∷ symbol ClientKeyExchange ToServer ∷ [])
road state.SessionEncrypted =
    symbol ClientHello ToServer ∷ symbol ServerHelloV13Draft18 FromServer ∷ symbol ChangeCipherSpec
    FromServer ∷ []
road state.Alert = symbol Other ToServer ∷ []
road state.Finished = symbol Other ToServer ∷ []
road state.Invalid = symbol Other ToServer ∷ []

-- What a run in q still waits for: the rest of a handshake, and then any word.
abbrev pub waits : TlsState → Pattern Symbol
waits q = behind_all same_symbol (chain handshake all) (road q)

-- Whether a run can be in q, if a ClientHello came before or not.
abbrev pub fits : TlsState → Bool → Bool
fits state.None before = not before
fits state.Alert before = false
fits state.SessionEncrypted before = true
fits state.Finished before = true
fits state.Invalid before = true
fits q before = before

-- Noise: an alert of severity 1, or a HelloRequest after a ClientHello.
abbrev pub is_noise : Bool → Symbol → Bool
is_noise before l = is_warning l || (before && is_hello_request l)

-- Whether a ClientHello came before the symbol after l.
abbrev pub turn : Bool → Symbol → Bool
turn before l = before || is_client_hello l

clean_after_hello : (w : Word)
    → without_after is_noise turn true w ≡ filter (λ x. not (is_hello_request x))
    (filter (λ x. not (is_warning x)) w)
clean_after_hello [] = refl
clean_after_hello (symbol Warning d ∷ w) = clean_after_hello w
clean_after_hello (symbol HelloRequest d ∷ w) = clean_after_hello w
clean_after_hello (symbol k d ∷ w) = ap (λ x. symbol k d ∷ x) (clean_after_hello w)

pub clean_is : (w : Word) → without_after is_noise turn false w ≡ clean w
clean_is [] = refl
clean_is (symbol Warning d ∷ w) = clean_is w
clean_is (symbol ClientHello d ∷ w) = ap (λ x. symbol ClientHello d ∷ x) (clean_after_hello w)
clean_is (symbol ClientHelloWithId d ∷ w) =
    ap (λ x. symbol ClientHelloWithId d ∷ x) (clean_after_hello w)
clean_is (symbol k d ∷ w) = ap (λ x. symbol k d ∷ x) (clean_is w)

abbrev is_finished : TlsState → Bool
is_finished state.Finished = true
is_finished _ = false

abbrev is_fatal : Symbol → Bool
is_fatal (symbol Fatal d) = true
is_fatal _ = false

-- What a message changes about what is waited for, as a test that all symbols pass in all states.
abbrev waits_next : Pattern Symbol → Bool → Symbol → Pattern Symbol
waits_next x before l = cond (is_noise before l) x (behind same_symbol x l)

abbrev same_pattern : (p q : Pattern Symbol) → Dec (p ≡ q)
same_pattern = Pattern-discrete same_symbol

abbrev next_test : TlsState → Pattern Symbol → Bool → Symbol → Bool
next_test q x before l =
    fits (next q l) (turn before l)
    && (is_yes (same_pattern (waits (next q l)) (waits_next x before l))
    && (not (is_finished (next q l)) || is_fatal l))

abbrev tests_at : TlsState → Bool → Bool
tests_at q before = list_all (next_test q (waits q) before) symbols

tests_pass : (q : TlsState) → (not (fits q false) || tests_at q false)
    && (not (fits q true) || tests_at q true) ≡ true
tests_pass = elim [ state.None ↦ refl | _ ↦ refl ]

follows_if : (a b : Bool) → (not a || b) ≡ true → a ≡ true → b ≡ true
follows_if true b h e = h
follows_if false b h e = cc

tests_pass_at : (q : TlsState) (before : Bool) → (not (fits q before) || tests_at q before) ≡ true
tests_pass_at q false =
    (both_and (not (fits q false) || tests_at q false) (not (fits q true) || tests_at q true)
    (tests_pass q)).0
tests_pass_at q true =
    (both_and (not (fits q false) || tests_at q false) (not (fits q true) || tests_at q true)
    (tests_pass q)).1

-- Which states and memories belong together.
abbrev pub Fits : TlsState → Bool → Type 0
Fits q before = fits q before ≡ true

module _ (q : TlsState) (before : Bool) (l : Symbol) (h : Fits q before) where
  next_passes : Fits (next q l) (turn before l)
      × ((is_yes (same_pattern (waits (next q l)) (waits_next (waits q) before l)) &&
      (not (is_finished (next q l)) || is_fatal l)) ≡ true)
  next_passes = both_and _ _ (passes (next_test q (waits q) before) l
      (follows_if (fits q before) (tests_at q before) (tests_pass_at q before) h))

  pub next_fits : Fits (next q l) (turn before l)
  next_fits = next_passes.0

  pub next_waits : waits (next q l) ≡ cond (is_noise before l) (waits q)
      (behind same_symbol (waits q) l)
  next_waits = yes_is (same_pattern (waits (next q l)) (waits_next (waits q) before l))
      (both_and _ _ next_passes.1).0

  only_fatal : is_finished (next q l) ≡ true → is_fatal l ≡ true
  only_fatal = follows_if (is_finished (next q l)) (is_fatal l)
      (both_and (is_yes (same_pattern (waits (next q l)) (waits_next (waits q) before l))) _
      next_passes.1).1

pub run_fits : (q : TlsState) (before : Bool) (w : Word) → Fits q before
    → (after : Bool) × Fits (run q w) after
run_fits q before [] h = (before, h)
run_fits q before (l ∷ w) h = run_fits (next q l) (turn before l) w (next_fits q before l h)

fatal_symbol : (l : Symbol) → is_fatal l ≡ true → (d : Direction) × (l ≡ symbol Fatal d)
fatal_symbol (symbol Fatal d) h = (d, refl)
fatal_symbol _ h = cc

pub finished_by_fatal : (q : TlsState) (before : Bool) (l : Symbol) → Fits q before
    → next q l ≡ state.Finished
    → (d : Direction) × (l ≡ symbol Fatal d)
finished_by_fatal q before l h e = fatal_symbol l (only_fatal q before l h (ap is_finished e))

-- Computed equality of symbols, and the list of all symbols.
use Rattle.std.proofs.Common.{◌≡◌, List, [], ◌∷◌, ◌++◌, map, Option, None, Some, Bool, true, false, refl}
use Rattle.std.specs.List.{list_all}
use Rattle.std.specs.Prelude.{is_some, option_map}
use Rattle.tls_words.proofs.SymbolLemmas.{decided, is_in, passes_in}
use Rattle.tls_states.specs.Symbols.{Symbol, symbol}
use Rattle.tls_states.specs.declared.symbol.Kind.{Kind}
use Rattle.tls_states.specs.declared.symbol.Kind.TheVariants.{
  HelloRequest,
  ClientHello,
  ClientHelloWithId,
  ServerHello,
  ServerHelloV13Draft18,
  NewSessionTicket,
  Certificate,
  ServerKeyExchange,
  CertificateRequest,
  ServerDone,
  CertificateVerify,
  ClientKeyExchange,
  CertificateStatus,
  ChangeCipherSpec,
  Warning,
  Fatal,
  Other,
}
use Rattle.tls_states.specs.declared.symbol.Direction.{Direction}
use Rattle.tls_states.specs.declared.symbol.Direction.TheVariants.{ToServer, FromServer}
use Rattle.tls_states.specs.contracts.symbol.Kind.{the_type as kinds_type}
use Rattle.tls_states.specs.contracts.symbol.Direction.{the_type as directions_type}
use denote.Enum.Bare.{sameb}

abbrev same_kind : (a b : Kind) → Dec (a ≡ b)
same_kind a b = decided kinds_type tt a b (sameb kinds_type a b) refl

abbrev same_direction : (a b : Direction) → Dec (a ≡ b)
same_direction a b = decided directions_type tt a b (sameb directions_type a b) refl

pub symbol_is : {k j : Kind} {d e : Direction} → k ≡ j → d ≡ e → symbol k d ≡ symbol j e
symbol_is p q = cc

pub kind_is : {k j : Kind} {d e : Direction} → symbol k d ≡ symbol j e → k ≡ j
kind_is p = cc

pub direction_is : {k j : Kind} {d e : Direction} → symbol k d ≡ symbol j e → d ≡ e
direction_is p = cc

abbrev of_parts : {k j : Kind} {d e : Direction} → Dec (k ≡ j) → Dec (d ≡ e)
    → Dec (symbol k d ≡ symbol j e)
of_parts (yes p) (yes q) = yes (symbol_is p q)
of_parts (no p) q = no (λ e. p (kind_is e))
of_parts p (no q) = no (λ e. q (direction_is e))

abbrev pub same_symbol : (a b : Symbol) → Dec (a ≡ b)
same_symbol (symbol k d) (symbol j e) = of_parts (same_kind k j) (same_direction d e)

abbrev kinds : List Kind
kinds =
    HelloRequest ∷ ClientHello ∷ ClientHelloWithId ∷ ServerHello ∷ ServerHelloV13Draft18
    ∷ NewSessionTicket ∷
    Certificate
    ∷ ServerKeyExchange ∷ CertificateRequest ∷ ServerDone ∷ CertificateVerify ∷ ClientKeyExchange
    ∷ CertificateStatus
    ∷ ChangeCipherSpec ∷ Warning ∷ Fatal ∷ Other ∷ []

abbrev pub symbols : List Symbol
symbols = map (λ k. symbol k ToServer) kinds ++ map (λ k. symbol k FromServer) kinds

all_in : (k : Kind) (d : Direction) → is_in same_symbol symbols (symbol k d) ≡ true
all_in = elim [
  | HelloRequest ↦ elim [ ToServer ↦ refl | _ ↦ refl ]
  | _ ↦ elim [ ToServer ↦ refl | _ ↦ refl ]
]

listed : (l : Symbol) → is_in same_symbol symbols l ≡ true
listed (symbol k d) = all_in k d

pub passes : (f : Symbol → Bool) (l : Symbol) → list_all f symbols ≡ true → f l ≡ true
passes f l t = passes_in same_symbol f symbols l t (listed l)

-- A view of an optional value is present if the value is.
pub viewed_is_some : {A B : Type 0} (f : A → B) (o : Option A)
    → is_some (option_map f o) ≡ is_some o
viewed_is_some f None = refl
viewed_is_some f (Some x) = refl

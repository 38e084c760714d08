-- Equality of symbols is decidable by computation; the list of all symbols.
use Rattle.std.proofs.Common.{◌≡◌, List, [], ◌∷◌, ◌++◌, map, Bool, true, refl, ap, subst}
use Rattle.std.specs.List.{list_all}
use Rattle.tls_words.proofs.SymbolLemmas.{decided, is_in, passes_in}
use Rattle.tls_flow.specs.Symbols.{symbol}
use Rattle.tls_flow.specs.declared.symbol.Symbol.{Symbol}
use Rattle.tls_flow.specs.declared.symbol.Kind.{Kind}
use Rattle.tls_flow.specs.declared.symbol.Kind.TheVariants as kind
use Rattle.tls_flow.specs.declared.symbol.Direction.{Direction}
use Rattle.tls_flow.specs.declared.symbol.Direction.TheVariants.{ToServer, FromServer}
use Rattle.tls_flow.specs.contracts.symbol.Kind.{the_type as kinds_type}
use Rattle.tls_flow.specs.contracts.symbol.Direction.{the_type as directions_type}
use Rattle.tls_flow.proofs.NumberLemmas.{kind_number, direction_number, same_kinds, same_directions}
use lib.Dec.{eqb}

abbrev pub same_kind : (a b : Kind) → Dec (a ≡ b)
same_kind a b = decided kinds_type tt a b (eqb (kind_number a) (kind_number b)) (same_kinds a b)

abbrev pub same_direction : (a b : Direction) → Dec (a ≡ b)
same_direction a b =
    decided directions_type tt a b (eqb (direction_number a) (direction_number b))
    (same_directions a b)

pub symbol_is : (a b : Symbol) → a.kind ≡ b.kind → a.direction ≡ b.direction → a ≡ b
symbol_is a b p q = subst (λ x. a ≡ symbol x b.direction) p (ap (λ y. symbol a.kind y) q)

abbrev pub of_parts : (a b : Symbol) → Dec (a.kind ≡ b.kind) → Dec (a.direction ≡ b.direction)
    → Dec (a ≡ b)
of_parts a b (yes p) (yes q) = yes (symbol_is a b p q)
of_parts a b (no p) q = no (λ e. p (ap (λ l. l.kind) e))
of_parts a b p (no q) = no (λ e. q (ap (λ l. l.direction) e))

abbrev pub same_symbol : (a b : Symbol) → Dec (a ≡ b)
same_symbol a b = of_parts a b (same_kind a.kind b.kind) (same_direction a.direction b.direction)

abbrev kinds : List Kind
kinds =
    kind.HelloRequest ∷ kind.ClientHello ∷ kind.HelloVerifyRequest ∷ kind.ServerHello
    ∷ kind.HelloRetryRequest ∷
    kind.ServerHello13 ∷ kind.NewSessionTicket ∷ kind.Certificate ∷ kind.ServerKeyExchange
    ∷ kind.CertificateRequest ∷
    kind.ServerDone ∷ kind.CertificateVerify ∷ kind.ClientKeyExchange ∷ kind.CertificateStatus
    ∷ kind.ChangeCipherSpec ∷
    kind.Encrypted ∷ kind.Warning ∷ kind.NoCertificate ∷ kind.Fatal ∷ kind.Heartbeat ∷ kind.Unknown
    ∷ kind.Other ∷ []

abbrev pub symbols : List Symbol
symbols = map (λ k. symbol k ToServer) kinds ++ map (λ k. symbol k FromServer) kinds

all_in : (k : Kind) (d : Direction) → is_in same_symbol symbols (symbol k d) ≡ true
all_in = elim [
  | kind.HelloRequest ↦ elim [ ToServer ↦ refl | _ ↦ refl ]
  | _ ↦ elim [ ToServer ↦ refl | _ ↦ refl ]
]

pub passes : (f : Symbol → Bool) (l : Symbol) → list_all f symbols ≡ true → f l ≡ true
passes f l t = passes_in same_symbol f symbols l t (all_in l.kind l.direction)

-- The analysis of a side from where its TLS begins.
use Rattle.std.proofs.Common.{◌≡◌, ℕ, Bool, true, false, length, drop, refl, sym, ◌∙◌, ap, subst, arith}
use Rattle.std.specs.Prelude.{min, nat_le}
use Rattle.std.proofs.lemmas.Bool.{leb-true, leb-false}
use Rattle.std.proofs.lemmas.List.{drop_all}
use Rattle.layouts.specs.Bytes.{Bytes}
use Rattle.connections.specs.Stream.{stopped}
use Rattle.connections.specs.declared.connection.Side.{Side}
use Rattle.connections.specs.declared.stream.Stream.{Stream}
use Rattle.tls_analyzer.specs.Analyzers.{IsReadAsNone}
use Rattle.tls_analyzer.specs.declared.analyzer.Analyzer.{Analyzer}
use Rattle.log_connections.specs.Analysis.{AnalyzesNone, AnalyzesNoneIn, direction_of}
use Rattle.log_connections.specs.Fronts.{with_preamble}
use Rattle.log_connections.specs.declared.analysis.TlsAnalysis.{TlsAnalysis}
use Rattle.log_connections.specs.declared.analysis.TransportAnalyzer.TheVariants as transport
use Rattle.log_connections.specs.declared.fronts.Preambles.{Preambles}

module _ {K : Type 0} where
  pub received_none : (s : Side) (t u : Stream) (a b : TlsAnalysis K) (x : Analyzer) (f : Preambles)
      (y : Analyzer) (g : Preambles)
      → a.transport ≡ transport.Stream x f → b ≡ record a { transport = transport.Stream y g }
      → IsReadAsNone x (direction_of a.is_turned s) y → g ≡ with_preamble s 0 f
      → u ≡ stopped t t.reading
      → AnalyzesNone s t u a b
  unfolding AnalyzesNone
  received_none s t u a b x f y g is made analysis left stops =
      subst (AnalyzesNone s t u a) (sym made)
      (subst
      (λ z. AnalyzesNoneIn z (transport.Stream y g) s t u a (record a { transport = transport.Stream y g }))
      (sym is) (analysis, left, stops, refl))

-- Dropping more bytes than there are drops all.
pub behind_all : (n m : ℕ) (b c : Bytes) → m ≡ min n (length b) → c ≡ drop m b → c ≡ drop n b
behind_all n m b c e is = is ∙ go (nat_le n (length b)) refl
  where
    go : (t : Bool) → nat_le n (length b) ≡ t → drop m b ≡ drop n b
    go true h = ap (λ k. drop k b) (omega (arith, e, leb-true n (length b) h))
    go false h = drop_all m b (omega (arith, e, leb-false n (length b) h))
        ∙ sym (drop_all n b (omega (arith, leb-false n (length b) h)))

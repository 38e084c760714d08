-- The analysis of a datagram.
use Rattle.std.proofs.Common.{◌≡◌, ℕ, Bool, Option, Result, Ok, refl, sym, ◌∙◌, ap, subst}
use Rattle.std.specs.Global.{Box}
use Rattle.std.specs.Prelude.{OnOk}
use Rattle.layouts.specs.Bytes.{Bytes}
use Rattle.tls_flow.specs.Table.{outcome_at}
use Rattle.connections.specs.declared.connection.Side.{Side}
use Rattle.tls_flow.specs.declared.symbol.Direction.{Direction}
use Rattle.tls_summary.specs.HandshakeSummary.{HandshakeSummary}
use Rattle.tls_summary.specs.Fields.{connection_id_length}
use Rattle.dtls_analyzer.specs.Datagrams as datagrams
use Rattle.dtls_analyzer.specs.Datagrams.{IsKnown, received}
use Rattle.tls_observer.specs.Ends.{is_13}
use Rattle.dtls_analyzer.specs.declared.datagram_analyzer.DatagramAnalyzer.{DatagramAnalyzer}
use Rattle.log_connections.specs.Analysis.{AnalyzesHeldIn, counted}
use Rattle.log_connections.specs.declared.analysis.TlsAnalysis.{TlsAnalysis}
use Rattle.log_connections.specs.declared.analysis.TransportAnalyzer.TheVariants as transport

module _ {K : Type 0} where
  same_counts : (s : Side) (b : Bytes) (a : TlsAnalysis K) (y : DatagramAnalyzer)
      (z : Option (Box K)) (p q : Bool) (m n : ℕ) → p ≡ q → m ≡ n
      → counted s b p m (record a { transport = transport.Datagrams y; collector = z })
      ≡ record (counted s b q n a) { transport = transport.Datagrams y; collector = z }
  same_counts s b a y z p q m n same eq =
      ap (λ r. record (counted s b r m a) { transport = transport.Datagrams y; collector = z }) same
      ∙ ap (λ r. record (counted s b q r a) { transport = transport.Datagrams y; collector = z }) eq

  pub received_datagram : {E : Type 0} (r : Result Unit E) (u : Unit) (s : Side) (d : Direction)
      (b : Bytes) (a e : TlsAnalysis K) (x y : DatagramAnalyzer) (z : Option (Box K)) (n : ℕ)
      (q : Bool) (h : HandshakeSummary)
      → r ≡ Ok u → a.transport ≡ transport.Datagrams x
      → ((k : datagrams.Analyzer) → IsKnown k x → OnOk r (IsKnown (received k d b) y))
      → n ≡ connection_id_length d h
      → ((k : datagrams.Analyzer) → IsKnown k y → h ≡ k.handshake)
      → ((k : datagrams.Analyzer) → IsKnown k y → q ≡ is_13 (outcome_at k.flow.state))
      → e ≡ counted s b q n (record a { transport = transport.Datagrams y; collector = z })
      → AnalyzesHeldIn a.transport e.transport s d b a e
  received_datagram r u s d b a e x y z n q h was is receives length summary version counts =
      subst (λ v. AnalyzesHeldIn a.transport v.transport s d b a v) (sym counts)
      (subst
      (λ t. AnalyzesHeldIn t (transport.Datagrams y) s d b a
      (counted s b q n (record a { transport = transport.Datagrams y; collector = z })))
      (sym is) (
        (λ k known.
            let its : IsKnown (received k d b) y =
            subst (λ s. OnOk s (IsKnown (received k d b) y)) was (receives k known) in (
              its,
              same_counts s b a y z q (is_13 (outcome_at (received k d b).flow.state)) n
                  (connection_id_length d (received k d b).handshake) (version (received k d b) its)
                  (length ∙ ap (connection_id_length d) (summary (received k d b) its)),
            )),
        refl,
      ))

-- Following the dialogue in front of TLS leaves the connection's ends as they are.
use Rattle.std.proofs.Common.{◌≡◌, ◌∙◌, ℕ, Option, Bool, true, false, refl, sym, ap, subst}
use Rattle.std.specs.Prelude.{◌&&◌, ◌==◌, not, if◌then◌else◌}
use Rattle.connections.specs.Connection.{has_opening, side_of, stream_of}
use Rattle.connections.specs.Lost.{end_of_side, lost_of, skipping_lost_of, skipping_on, waits_before}
use Rattle.connections.specs.Segment.{first_of, has_data}
use Rattle.connections.specs.Stream.{handing_on, next_bytes}
use Rattle.connections.specs.declared.connection.Connection.{Connection}
use Rattle.connections.specs.declared.connection.Side.{Side}
use Rattle.connections.specs.declared.connection.Side.TheVariants.{Originator, Responder}
use Rattle.connections.specs.declared.five_tuple.End.{End}
use Rattle.connections.specs.declared.segment.Segment.{Segment}
use Rattle.connections.specs.declared.stream.Stream.{Stream}
use Rattle.tunnels.specs.declared.tunnel.Tunnels.{Tunnels}
use Rattle.dtls_analyzer.specs.declared.datagram_analyzer.DatagramAnalyzer.{DatagramAnalyzer}
use Rattle.tls_analyzer.specs.declared.analyzer.Analyzer.{Analyzer}
use Rattle.log_connections.specs.Analysis.{FollowsOnce, FollowsOnceIn, IsPrepared, PassesMissing, awaits_of, is_followed_in, is_front_in}
use Rattle.log_connections.specs.Fronts.{IsFollowedBy}
use Rattle.log_connections.specs.declared.analysis.PieceKind.{PieceKind}
use Rattle.log_connections.specs.Sides.{AnalyzesIf, AnalyzesSender, AnalyzesSide, AnalyzesWaiting, FollowsFront, FollowsFrontIf, FollowsIf, FollowsOpened, IsReady, PassesUnless, SkipsIf, SkipsMissing, missing_of, other_of}
use Rattle.log_connections.specs.declared.analysis.TlsAnalysis.{TlsAnalysis}
use Rattle.log_connections.specs.declared.analysis.TransportAnalyzer.TheVariants as transport
use Rattle.log_connections.specs.declared.fronts.Preambles.{Preambles}

module _ {K : Type 0} where
  waiting_side : (e : End) (side : Side) (c d : Connection (TlsAnalysis K))
      → AnalyzesWaiting side c d → side_of d e ≡ side_of c e
  waiting_side e Originator c d h = ap {A = Connection (TlsAnalysis K)} (λ x. side_of x e) h.1
  waiting_side e Responder c d h = ap {A = Connection (TlsAnalysis K)} (λ x. side_of x e) h.1

  opened_side : (e : End) (b : Bool) (side : Side) (c d : Connection (TlsAnalysis K))
      → FollowsOpened b side c d → side_of d e ≡ side_of c e
  opened_side e true side c d h =
      waiting_side e side h.second d h.waiting
      ∙ ap {A = Connection (TlsAnalysis K)} (λ x. side_of x e) h.same
  opened_side e false side c d h =
      ap {A = Connection (TlsAnalysis K)} (λ x. side_of x e) h

  followed_side : (e : End) (b : Bool) (side : Side) (c d : Connection (TlsAnalysis K))
      → FollowsIf b side c d → side_of d e ≡ side_of c e
  followed_side e true side c d h = opened_side e (has_opening c) side c d h
  followed_side e false side c d h =
      ap {A = Connection (TlsAnalysis K)} (λ x. side_of x e) h

  lost_same : (e : End) (b : Bool) (side : Side) (c : Connection (TlsAnalysis K))
      → side_of (if b then c else skipping_on side c) e ≡ side_of c e
  lost_same e true side c = refl
  lost_same e false Originator c = refl
  lost_same e false Responder c = refl

  lost_side : (e : End) (b : Bool) (side : Side) (a : TlsAnalysis K)
      (c : Connection (TlsAnalysis K))
      → side_of (record (if b then c else skipping_on side c) { attachment = a }) e ≡ side_of c e
  lost_side e true side a c = refl
  lost_side e false Originator a c = refl
  lost_side e false Responder a c = refl

  passed_side : (e : End) (b : Bool) (side : Side) (n : ℕ) (c d : Connection (TlsAnalysis K))
      → PassesUnless b side n c d → side_of d e ≡ side_of c e
  passed_side e true side n c d h =
      ap {A = Connection (TlsAnalysis K)} (λ x. side_of x e) h
      ∙ lost_same e (waits_before (end_of_side side c) n c.waiting) side c
  passed_side e false side n c d h =
      ap {A = Connection (TlsAnalysis K)} (λ x. side_of x e) h.2
      ∙ lost_side e (waits_before (end_of_side side c) n c.waiting) side h.0 c

  skipped_side : (e : End) (b : Bool) (side : Side) (n : ℕ) (c d : Connection (TlsAnalysis K))
      → SkipsIf b side n c d → side_of d e ≡ side_of c e
  skipped_side e true side n c d h = passed_side e (lost_of side n c == 0) side n c d h
  skipped_side e false side n c d h = ap {A = Connection (TlsAnalysis K)} (λ x. side_of x e) h

  searched_side : (e : End) (b : Bool) (side : Side) (c d : Connection (TlsAnalysis K))
      → AnalyzesIf b side c d → side_of d e ≡ side_of c e
  searched_side e true side c d h = waiting_side e side c d h
  searched_side e false side c d h = ap {A = Connection (TlsAnalysis K)} (λ x. side_of x e) h

  front_side : (e : End) (b : Bool) (s : Segment) (side : Side)
      (c d : Connection (TlsAnalysis K))
      → FollowsFrontIf b s side c d → side_of d e ≡ side_of c e
  front_side e true s side c d h =
      followed_side e (is_followed_in h.third.attachment.transport) side h.third d h.follows
      ∙ searched_side e
      (not (missing_of (other_of side) (stream_of (other_of side) c).last c == 0)
      && not (is_followed_in h.second.attachment.transport)) side h.second h.third h.searches
      ∙ skipped_side e (awaits_of side h.first.attachment) side (first_of s) h.first h.second
      h.skips_own
      ∙ skipped_side e (awaits_of (other_of side) c.attachment) (other_of side)
      (stream_of (other_of side) c).last c h.first h.skips_other
  front_side e false s side c d h = ap {A = Connection (TlsAnalysis K)} (λ x. side_of x e) h

  -- Skipped bytes leave the analysis.
  analysis_if : (b : Bool) (side : Side) (c : Connection (TlsAnalysis K))
      → (if b then c else skipping_on side c).attachment ≡ c.attachment
  analysis_if true side c = refl
  analysis_if false Originator c = refl
  analysis_if false Responder c = refl

  pub analysis_stays : (side : Side) (n : ℕ) (c : Connection (TlsAnalysis K))
      → (skipping_lost_of side n c).attachment ≡ c.attachment
  analysis_stays side n c = analysis_if (waits_before (end_of_side side c) n c.waiting) side c

  none_by : (b : Bool) (side : Side) (n : ℕ) (c d : Connection (TlsAnalysis K)) → b ≡ true
      → d ≡ skipping_lost_of side n c → PassesUnless b side n c d
  none_by true side n c d _ h = h
  none_by false side n c d is h = cc

  some_by : (b : Bool) (side : Side) (n : ℕ) (a : TlsAnalysis K) (c d : Connection (TlsAnalysis K))
      → b ≡ false → PassesMissing side (lost_of side n c) c.attachment a
      → d ≡ record (skipping_lost_of side n c) { attachment = a } → PassesUnless b side n c d
  some_by true side n a c d is h same = cc
  some_by false side n a c d _ h same = (a, h, same)

  awaited_by : (b : Bool) (side : Side) (n : ℕ) (c d : Connection (TlsAnalysis K)) → b ≡ true
      → PassesUnless (lost_of side n c == 0) side n c d → SkipsIf b side n c d
  awaited_by true side n c d _ h = h
  awaited_by false side n c d is h = cc

  pub skips_none : (side : Side) (n : ℕ) (c d : Connection (TlsAnalysis K))
      → awaits_of side c.attachment ≡ true → (lost_of side n c == 0) ≡ true
      → d ≡ skipping_lost_of side n c → SkipsMissing side n c d
  skips_none side n c d is none same =
      awaited_by (awaits_of side c.attachment) side n c d is
      (none_by (lost_of side n c == 0) side n c d none same)

  pub skips_some : (side : Side) (n : ℕ) (a : TlsAnalysis K) (c d : Connection (TlsAnalysis K))
      → awaits_of side c.attachment ≡ true → (lost_of side n c == 0) ≡ false
      → PassesMissing side (lost_of side n c) c.attachment a
      → d ≡ record (skipping_lost_of side n c) { attachment = a } → SkipsMissing side n c d
  skips_some side n a c d is some passes same =
      awaited_by (awaits_of side c.attachment) side n c d is
      (some_by (lost_of side n c == 0) side n a c d some passes same)

  pub front_when : (a b : Bool) (s : Segment) (side : Side) (c d : Connection (TlsAnalysis K))
      → a ≡ true → b ≡ true → FollowsFront s side c d → FollowsFrontIf (a && b) s side c d
  front_when true true s side c d _ _ h = h
  front_when true false s side c d _ is h = cc
  front_when false b s side c d is _ h = cc

  -- What is in front of TLS was followed, and then the sender's bytes were analyzed.
  pub analyzed_behind : (Prepares : TlsAnalysis K → TlsAnalysis K → Type 0) (s : Segment)
      (c d c' : Connection (TlsAnalysis K))
      → FollowsFrontIf (has_data s && is_front_in c.attachment.transport) s (side_of c s.source) c d
      → AnalyzesSender Prepares s (side_of d s.source) d c'
      → AnalyzesSide Prepares s (side_of c s.source) c c'
  analyzed_behind Prepares s c d c' follows analyzes = (
    d,
    follows,
    subst (λ z. AnalyzesSender Prepares s z d c')
        (front_side s.source (has_data s && is_front_in c.attachment.transport) s
        (side_of c s.source) c d follows)
        analyzes,
  )

  -- It was prepared for some packet.
  sender_prepared : (ts : Tunnels) (kept : Option PieceKind) (s : Segment) (side : Side)
      (c c' : Connection (TlsAnalysis K)) → AnalyzesSender (IsPrepared ts kept) s side c c'
      → AnalyzesSender IsReady s side c c'
  sender_prepared ts kept s Originator c c' h = (h.0, (ts, kept, h.1), h.2, h.3)
  sender_prepared ts kept s Responder c c' h = (h.0, (ts, kept, h.1), h.2, h.3)

  pub side_prepared : (ts : Tunnels) (kept : Option PieceKind) (s : Segment) (side : Side)
      (c c' : Connection (TlsAnalysis K)) → AnalyzesSide (IsPrepared ts kept) s side c c'
      → AnalyzesSide IsReady s side c c'
  side_prepared ts kept s side c c' h =
      (h.0, h.1, sender_prepared ts kept s side h.0 c' h.2)

module _ {K : Type 0} where
  -- The dialogue of a stream was followed once.
  pub followed_once : (t t' u u' : Stream) (a b : TlsAnalysis K) (x : Analyzer) (f g : Preambles)
      (n : ℕ × ℕ) → a.transport ≡ transport.Stream x f
      → b ≡ record a { transport = transport.Stream x g }
      → IsFollowedBy (next_bytes t t.reading) (next_bytes u u.reading) f g n
      → t' ≡ handing_on n.0 t → u' ≡ handing_on n.1 u → FollowsOnce t t' u u' a b
  unfolding FollowsOnce
  followed_once t t' u u' a b x f g n is made follows first second =
      subst (λ z. FollowsOnceIn z t t' u u' a b) (sym is)
      (g, n, follows, first, second, made)

  -- Datagrams have no dialogue in front.
  pub followed_none : (t u : Stream) (a : TlsAnalysis K) (x : DatagramAnalyzer)
      → a.transport ≡ transport.Datagrams x → FollowsOnce t t u u a a
  unfolding FollowsOnce
  followed_none t u a x is =
      subst (λ z. FollowsOnceIn z t t u u a a) (sym is) (refl, refl, refl)

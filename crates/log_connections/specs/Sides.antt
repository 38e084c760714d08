-- What a segment does to its connection's analysis.
use Rattle.std.specs.Prelude.{◌≡◌, ℕ, ◌==◌, Bool, true, false, not, ◌&&◌, if◌then◌else◌, Option}
use Rattle.connections.specs.Connection.{AcceptsKept, has_opening, side_of, stream_of}
use Rattle.connections.specs.Lost.{lost_of, skipping_lost_of}
use Rattle.connections.specs.Segment.{first_of, has_data, header_of}
use Rattle.connections.specs.Stream.{is_cut_short}
use Rattle.connections.specs.Waiting.{Kept}
use Rattle.connections.specs.declared.connection.Connection.{Connection}
use Rattle.connections.specs.declared.connection.Side.{Side}
use Rattle.connections.specs.declared.connection.Side.TheVariants.{Originator, Responder}
use Rattle.connections.specs.declared.segment.Segment.{Segment}
use Rattle.tunnels.specs.declared.tunnel.Tunnels.{Tunnels}
use Rattle.log_connections.specs.Analysis.{AnalyzesOn, AnalyzesStream, FollowsOnce, IsPrepared, PassesMissing, awaits_of, is_followed_in, is_front_in, undialogued}
use Rattle.log_connections.specs.declared.analysis.PieceKind.{PieceKind}
use Rattle.log_connections.specs.declared.analysis.TlsAnalysis.{TlsAnalysis}

abbrev pub other_of : Side → Side
other_of Originator = Responder
other_of Responder = Originator

module _ {K : Type 0} where
  -- Nothing changes but a connection's streams and its analysis.
  abbrev pub ChangesAnalysis : Connection (TlsAnalysis K) → Connection (TlsAnalysis K) → Type 0
  ChangesAnalysis c d = d ≡ record c {
    from_originator = d.from_originator;
    from_responder = d.from_responder;
    attachment = d.attachment;
  }

  -- A packet's tunnels are noted, and its pieces kept if any are. Nothing else in the analysis
  -- changes.
  abbrev pub IsReady : TlsAnalysis K → TlsAnalysis K → Type 0
  IsReady a b = (ts : Tunnels) × (kept : Option PieceKind) × IsPrepared ts kept a b

  -- Once the connection is over, there is no packet to prepare for.
  abbrev pub IsOnItsOwn : TlsAnalysis K → TlsAnalysis K → Type 0
  IsOnItsOwn a b = b ≡ a

  -- The next bytes of a side's stream are analyzed. Everything else in the connection stays, the
  -- other side's stream included.
  -- It was prepared for the segment's packet before.
  abbrev pub AnalyzesSender : (TlsAnalysis K → TlsAnalysis K → Type 0) → Segment → Side
      → Connection (TlsAnalysis K) → Connection (TlsAnalysis K) → Type 0
  AnalyzesSender Prepares s Originator c c' =
      (a : TlsAnalysis K) × Prepares c.attachment a
      × AnalyzesOn Originator (has_opening c) s c.from_originator c'.from_originator a c'.attachment
      × (c' ≡ record c { from_originator = c'.from_originator; attachment = c'.attachment })
  AnalyzesSender Prepares s Responder c c' =
      (a : TlsAnalysis K) × Prepares c.attachment a
      × AnalyzesOn Responder (has_opening c) s c.from_responder c'.from_responder a c'.attachment
      × (c' ≡ record c { from_responder = c'.from_responder; attachment = c'.attachment })

  -- The bytes of the other side that waited are analyzed. Everything else stays.
  abbrev pub AnalyzesWaiting : Side → Connection (TlsAnalysis K) → Connection (TlsAnalysis K)
      → Type 0
  AnalyzesWaiting Originator c d =
      AnalyzesStream Responder (has_opening c)
      (is_cut_short c.from_responder c.from_responder.reading) c.from_responder d.from_responder
      c.attachment d.attachment
      × (d ≡ record c { from_responder = d.from_responder; attachment = d.attachment })
  AnalyzesWaiting Responder c d =
      AnalyzesStream Originator (has_opening c)
      (is_cut_short c.from_originator c.from_originator.reading) c.from_originator d.from_originator
      c.attachment d.attachment
      × (d ≡ record c { from_originator = d.from_originator; attachment = d.attachment })

  -- The dialogue in front of TLS is followed, and the next one behind a tunnel. Then the bytes of
  -- the other side that waited for the sender's are analyzed.
  pub record FollowsDialogue (side : Side) (c d : Connection (TlsAnalysis K)) : Type 0 where
    pub first : Connection (TlsAnalysis K)
    pub second : Connection (TlsAnalysis K)
    pub follows :
        FollowsOnce c.from_originator first.from_originator c.from_responder first.from_responder
        c.attachment first.attachment
    pub follows_next :
        FollowsOnce first.from_originator second.from_originator first.from_responder
        second.from_responder first.attachment second.attachment
    pub same :
        second ≡ record c {
          from_originator = second.from_originator;
          from_responder = second.from_responder;
          attachment = second.attachment;
        }
    pub waiting : AnalyzesWaiting side second d

  -- A dialogue is followed from the connection's opening on, if that was captured.
  abbrev pub FollowsOpened : Bool → Side → Connection (TlsAnalysis K) → Connection (TlsAnalysis K)
      → Type 0
  FollowsOpened true side c d = FollowsDialogue side c d
  FollowsOpened false side c d = d ≡ record c { attachment = undialogued c.attachment }

  abbrev pub FollowsIf : Bool → Side → Connection (TlsAnalysis K) → Connection (TlsAnalysis K)
      → Type 0
  FollowsIf true side c d = FollowsOpened (has_opening c) side c d
  FollowsIf false side c d = d ≡ c

  -- How many bytes of a side are skipped because its receiver acknowledged missing ones.
  abbrev pub missing_of : Side → ℕ → Connection (TlsAnalysis K) → ℕ
  missing_of side n c = if awaits_of side c.attachment then lost_of side n c else 0

  -- They are skipped in the stream, and noted; or there are none.
  abbrev pub PassesUnless : Bool → Side → ℕ → Connection (TlsAnalysis K)
      → Connection (TlsAnalysis K) → Type 0
  PassesUnless true side n c d = d ≡ skipping_lost_of side n c
  PassesUnless false side n c d = (a : TlsAnalysis K)
      × PassesMissing side (lost_of side n c) c.attachment a
      × (d ≡ record (skipping_lost_of side n c) { attachment = a })

  abbrev pub SkipsIf : Bool → Side → ℕ → Connection (TlsAnalysis K) → Connection (TlsAnalysis K)
      → Type 0
  SkipsIf true side n c d = PassesUnless (lost_of side n c == 0) side n c d
  SkipsIf false side n c d = d ≡ c

  -- No pending segment of the side that begins before this number may hold them.
  abbrev pub SkipsMissing : Side → ℕ → Connection (TlsAnalysis K) → Connection (TlsAnalysis K)
      → Type 0
  SkipsMissing side n c d = SkipsIf (awaits_of side c.attachment) side n c d

  abbrev pub AnalyzesIf : Bool → Side → Connection (TlsAnalysis K) → Connection (TlsAnalysis K)
      → Type 0
  AnalyzesIf true side c d = AnalyzesWaiting side c d
  AnalyzesIf false side c d = d ≡ c

  -- With a segment of this side, missing bytes in front of TLS are skipped that their receiver
  -- acknowledged: the other side's, and its own in front of the segment. Then the dialogue is followed; or, if none is, TLS is searched for in the
  -- other side's bytes behind missing ones.
  pub record FollowsFront (s : Segment) (side : Side) (c d : Connection (TlsAnalysis K))
      : Type 0 where
    pub first : Connection (TlsAnalysis K)
    pub second : Connection (TlsAnalysis K)
    pub third : Connection (TlsAnalysis K)
    pub skips_other : SkipsMissing (other_of side) (stream_of (other_of side) c).last c first
    pub skips_own : SkipsMissing side (first_of s) first second
    pub searches :
        AnalyzesIf (not (missing_of (other_of side) (stream_of (other_of side) c).last c == 0)
        && not (is_followed_in second.attachment.transport)) side second third
    pub follows : FollowsIf (is_followed_in third.attachment.transport) side third d

  abbrev pub FollowsFrontIf : Bool → Segment → Side → Connection (TlsAnalysis K)
      → Connection (TlsAnalysis K) → Type 0
  FollowsFrontIf true s side c d = FollowsFront s side c d
  FollowsFrontIf false s side c d = d ≡ c

  -- A segment's data leads on what is in front of TLS. Then the next bytes of its sender are
  -- analyzed.
  abbrev pub AnalyzesSide : (TlsAnalysis K → TlsAnalysis K → Type 0) → Segment → Side
      → Connection (TlsAnalysis K) → Connection (TlsAnalysis K) → Type 0
  AnalyzesSide Prepares s side c c' = (d : Connection (TlsAnalysis K))
      × FollowsFrontIf (has_data s && is_front_in c.attachment.transport) s side c d
      × AnalyzesSender Prepares s side d c'

  -- A pending segment is added to its sender's stream, whose next bytes are analyzed.
  pub record AnalyzesKept (Prepares : TlsAnalysis K → TlsAnalysis K → Type 0) (k : Kept)
      (c c' : Connection (TlsAnalysis K)) : Type 0 where
    pub put : Connection (TlsAnalysis K)
    pub segment : Segment
    pub header : header_of segment ≡ k.header
    pub payload : segment.payload.now ≡ k.bytes
    pub accepts : AcceptsKept k c put
    pub receives : AnalyzesSide Prepares segment (side_of put segment.source) put c'

-- What is analyzed of a connection's bytes.
use Rattle.std.specs.Prelude.{◌≡◌, ◌==◌, ◌&&◌, ◌||◌, if◌then◌else◌, ℕ, Bool, true, false, not, Option, Some, None, List, [], ◌∷◌, is_some, length, drop}
use Rattle.std.specs.Option.{option_map}
use Rattle.std.specs.Global.{Box}
use Rattle.layouts.specs.Bytes.{Bytes}
use Rattle.connections.specs.Segment.{has_data}
use Rattle.connections.specs.Stream.{handing_on, has_urgent_next, is_cut_short, next_bytes, passed, passing_behind, passing_urgent, stopped}
use Rattle.connections.specs.Traffic.{plus}
use Rattle.connections.specs.declared.connection.Side.{Side}
use Rattle.connections.specs.declared.connection.Side.TheVariants.{Originator, Responder}
use Rattle.connections.specs.declared.five_tuple.Protocol.{Protocol}
use Rattle.connections.specs.declared.five_tuple.Protocol.TheVariants.{Tcp, Udp}
use Rattle.connections.specs.declared.segment.Segment.{Segment}
use Rattle.connections.specs.declared.stream.Stream.{Stream}
use Rattle.ssl2_hello.specs.ClientHello as ssl2
use Rattle.tls_detection.specs.Front.{first_message}
use Rattle.tls_flow.specs.Table.{outcome_at}
use Rattle.tls_flow.specs.declared.symbol.Direction.{Direction}
use Rattle.tls_flow.specs.declared.symbol.Direction.TheVariants.{ToServer, FromServer}
use Rattle.tls_analyzer.specs.Analyzers.{IsReadAsNone, IsReadInSsl2, IsReadOn, IsNew, is_over, is_tls_on, is_unknown, known_as_tls}
use Rattle.dtls_analyzer.specs.DatagramRecords.{no_datagrams, with_datagram}
use Rattle.dtls_analyzer.specs.Datagrams.{IsKnown, received, nothing_observed}
use Rattle.dtls_analyzer.specs.Datagrams as datagrams
use Rattle.dtls_analyzer.specs.Senders.{deciding_direction}
use Rattle.tls_observer.specs.Ends.{is_13}
use Rattle.tls_analyzer.specs.Records.{no_records, with_bytes}
use Rattle.tls_summary.specs.Fields.{connection_id_length}
use Rattle.tls_summary.specs.HandshakeSummary.{view_summary}
use Rattle.tunnels.specs.Tunnel.{listed}
use Rattle.tunnels.specs.declared.tunnel.Tunnel.{Tunnel}
use Rattle.tunnels.specs.declared.tunnel.Tunnels.{Tunnels}
use Rattle.log_connections.specs.declared.analysis.PieceKind.{PieceKind}
use Rattle.log_connections.specs.declared.analysis.PieceKind.TheVariants as pieces
use Rattle.log_connections.specs.declared.analysis.TlsAnalysis.{TlsAnalysis}
use Rattle.log_connections.specs.declared.analysis.TransportAnalyzer.{TransportAnalyzer}
use Rattle.log_connections.specs.declared.analysis.TransportAnalyzer.TheVariants as transport
use Rattle.preambles.specs.declared.phase.Protocol.{Protocol as Preceding}
use Rattle.log_connections.specs.Dialogue.{awaits, is_followed, protocol_in, state_of}
use Rattle.log_connections.specs.Fit.{do_hellos_fit}
use Rattle.log_connections.specs.Fronts.{At, BehindFirst, InSsl2, IsBehindMissing, IsFollowedBy, Next, Nowhere, PassesOver as Passes, Start, Waits, beginning, no_preambles, passing, preamble, speaker_of, with_preamble, without_dialogue}
use Rattle.log_connections.specs.Tds.{behind_tls, tls_in}
use Rattle.log_connections.specs.declared.fronts.Preambles.{Preambles}

-- The originator is the client, unless a hello shows otherwise: then the sides are turned.
abbrev pub direction_of : Bool → Side → Direction
direction_of false Originator = ToServer
direction_of false Responder = FromServer
direction_of true Originator = FromServer
direction_of true Responder = ToServer

abbrev pub is_responder : Side → Bool
is_responder Originator = false
is_responder Responder = true

-- A ClientHello (type 1) of the responder turns the sides, and so does a ServerHello (type 2) of
-- the originator. It doesn't if the opening was captured: a server that opens the connection waits
-- for the client's hello.
abbrev pub turned_by : Option ℕ → Side → Bool → Bool
turned_by None s opened = false
turned_by (Some kind) s opened =
    if kind == 1 then is_responder s else kind == 2 && not (is_responder s) && not opened

-- Whether the originator is the server, by a side's hello in this direction.
abbrev pub turned_by_hello : Direction → Side → Bool
turned_by_hello ToServer s = is_responder s
turned_by_hello FromServer s = not (is_responder s)

-- Without such a hello the sides stay.
abbrev pub turned_from : Option Direction → Side → Bool → Bool
turned_from None s was = was
turned_from (Some d) s was = turned_by_hello d s

abbrev pub is_other : Bool → Bool → Bool
is_other true b = not b
is_other false b = b

-- Of neither side it is decided whether it speaks TLS.
abbrev pub is_silent_in : TransportAnalyzer → Bool
is_silent_in (transport.Stream x f) = is_unknown x ToServer && is_unknown x FromServer
is_silent_in (transport.Datagrams x) = false

-- Whether the sides are turned, by the first message of the connection. Later ones don't matter.
abbrev pub turned : Option ℕ → Side → Bool → TransportAnalyzer → Bool → Bool
turned message s opened x was = if is_silent_in x then turned_by message s opened else was

-- A stream whose side is over is read no further.
abbrev pub stopped_if : Bool → Stream → Stream
stopped_if true t = stopped t t.reading
stopped_if false t = t

-- Where a side's TLS begins, by the dialogue in front of it and the next bytes of its stream. It
-- answers if the other's began.
abbrev pub begins_in : Side → Direction → Bool → TransportAnalyzer → Bytes → Start
begins_in s d last (transport.Stream x f) b =
    beginning (state_of f.dialogue) (is_unknown x d) x.is_tls last (preamble s f) b
begins_in s d last (transport.Datagrams x) b = Waits

-- A side's TLS was found, behind n bytes that are skipped.
abbrev pub begun_in : Side → Direction → ℕ → TransportAnalyzer → TransportAnalyzer
begun_in s d n (transport.Stream x f) = transport.Stream (known_as_tls x d) (passing s n f)
begun_in s d n (transport.Datagrams x) = transport.Datagrams x

-- A side whose TLS was found and is complete, or that speaks none, is analyzed no further.
abbrev pub is_over_in : Direction → TransportAnalyzer → Bool
is_over_in d (transport.Stream x f) = is_over x d
is_over_in d (transport.Datagrams x) = false

-- A segment's bytes are passed on, if it has any.
abbrev pub passing_on : Segment → Stream → Stream
passing_on s t =
    record t { passing = if has_data s then passing_behind t.passing s else t.passing }

-- How many bytes came before a side's TLS. Over UDP there are none.
abbrev pub preamble_of : Side → TransportAnalyzer → ℕ
preamble_of s (transport.Stream x f) = preamble s f
preamble_of s (transport.Datagrams x) = 0

-- The protocol of the dialogue behind which TLS begins. Over UDP there is none.
abbrev pub dialogue_of : TransportAnalyzer → Option Preceding
dialogue_of (transport.Stream x f) = protocol_in f.dialogue
dialogue_of (transport.Datagrams x) = None

-- The TLS in what a side sent next, and the place behind that in its packets, if it comes in any.
abbrev pub tls_in_transport : Side → Bytes → TransportAnalyzer → Bytes
tls_in_transport s b (transport.Stream x f) = tls_in s b f
tls_in_transport s b (transport.Datagrams x) = b

abbrev pub behind_tls_in : Side → Bytes → TransportAnalyzer → TransportAnalyzer
behind_tls_in s b (transport.Stream x f) = transport.Stream x (behind_tls s b f)
behind_tls_in s b (transport.Datagrams x) = transport.Datagrams x

-- A dialogue in front of TLS goes on.
abbrev pub is_followed_in : TransportAnalyzer → Bool
is_followed_in (transport.Stream x f) = is_followed f.dialogue
is_followed_in (transport.Datagrams x) = false

-- Of a side it isn't known whether it speaks TLS, and its missing bytes are skipped.
abbrev pub awaits_in : Side → Direction → TransportAnalyzer → Bool
awaits_in s d (transport.Stream x f) = is_unknown x d && awaits (speaker_of s) (state_of f.dialogue)
awaits_in s d (transport.Datagrams x) = false

-- Of one of the sides it isn't known whether it speaks TLS.
abbrev pub is_front_in : TransportAnalyzer → Bool
is_front_in (transport.Stream x f) = is_unknown x ToServer || is_unknown x FromServer
is_front_in (transport.Datagrams x) = false

-- Bytes of a side were skipped since some were missing.
abbrev pub IsBehindMissingIn : TransportAnalyzer → TransportAnalyzer → Side → ℕ → Type 0
IsBehindMissingIn (transport.Stream x f) (transport.Stream y g) s n =
    (y ≡ x) × IsBehindMissing s n f g
IsBehindMissingIn (transport.Stream x f) (transport.Datagrams y) s n = ⊥
IsBehindMissingIn (transport.Datagrams x) y s n = y ≡ transport.Datagrams x

-- No more bytes of it come.
abbrev pub without_dialogue_in : TransportAnalyzer → TransportAnalyzer
without_dialogue_in (transport.Stream x f) = transport.Stream x (without_dialogue f)
without_dialogue_in (transport.Datagrams x) = transport.Datagrams x

-- A side with other bytes before its TLS is answered if they are a dialogue's, or the other speaks
-- TLS and their hellos fit.
abbrev pub is_answered : Side → Side → Bool → TransportAnalyzer → Bool
is_answered s other turned (transport.Stream x f) =
    preamble s f == 0 || is_some (protocol_in f.dialogue)
    || (is_tls_on x (direction_of turned other)
    && do_hellos_fit (view_summary x.conversation_state.handshake))
is_answered s other turned (transport.Datagrams t) = true

-- Whether it is TLS, which both sides have to speak if other bytes came before it; or DTLS.
abbrev pub IsTlsBy : Bool → Bool → TransportAnalyzer → Type 0
IsTlsBy b turned (transport.Stream x f) =
    b ≡ (x.is_tls && is_answered Originator Responder turned (transport.Stream x f)
    && is_answered Responder Originator turned (transport.Stream x f))
IsTlsBy b turned (transport.Datagrams t) = (k : datagrams.Analyzer) → IsKnown k t → b ≡ k.is_dtls

-- Nothing was analyzed: over TCP the beginning of TLS is looked for on both sides.
abbrev pub IsSilent : Protocol → TransportAnalyzer → Type 0
IsSilent Tcp (transport.Stream x f) = IsNew x × (f ≡ no_preambles)
IsSilent Tcp (transport.Datagrams t) = ⊥
IsSilent Udp (transport.Stream x f) = ⊥
IsSilent Udp (transport.Datagrams t) = IsKnown nothing_observed t

-- The direction in which the hello of a datagram shows that it is sent, if the hello decides that.
abbrev pub Decides : Option Direction → Bytes → TransportAnalyzer → Type 0
Decides o datagram (transport.Stream x f) = o ≡ None
Decides o datagram (transport.Datagrams t) =
    (k : datagrams.Analyzer) → IsKnown k t → o ≡ deciding_direction k datagram

-- All but chains are passed on as they come.
abbrev pub are_passed : PieceKind → Bool
are_passed pieces.Messages = true
are_passed pieces.NumberedMessages = true
are_passed pieces.Certificates = true
are_passed pieces.Chains = false

-- The tunnels of the first packet that was in any.
abbrev pub noted_tunnels : Tunnels → Option Tunnels → Option Tunnels
noted_tunnels ts (Some first) = Some first
noted_tunnels ts None = if length (listed ts) == 0 then None else Some ts

abbrev pub tunnels_in : Option (Box Tunnels) → List Tunnel
tunnels_in None = []
tunnels_in (Some b) = listed b.value

module _ {K : Type 0} where
  -- A new analysis: the originator counts as client, and no byte or record was read.
  abbrev pub IsBegun : Protocol → TlsAnalysis K → Type 0
  IsBegun protocol a = IsSilent protocol a.transport
      × (a ≡ record {
        alloc = a.alloc;
        protocol = protocol;
        transport = a.transport;
        is_turned = false;
        received = 0;
        is_ended_early = false;
        collector = None;
        tunnels = None;
        from_originator = no_records;
        from_responder = no_records;
        by_originator = no_datagrams;
        by_responder = no_datagrams;
      })

  -- Pieces are kept from here on, or still. Nothing else changes.
  pub record Keeps (a b : TlsAnalysis K) : Type 0 where
    pub kept : is_some b.collector ≡ true
    pub stays : is_some a.collector ≡ true → b.collector ≡ a.collector
    pub same : b ≡ record a { collector = b.collector }

  -- The records in more bytes of a side's stream are counted.
  abbrev pub counting : Side → Bytes → TlsAnalysis K → TlsAnalysis K
  counting s b a = record a {
    from_originator =
        if is_responder s then a.from_originator else with_bytes b a.from_originator;
    from_responder = if is_responder s then with_bytes b a.from_responder else a.from_responder;
  }

  -- If nothing was analyzed before, the message with which these bytes of a side begin shows which
  -- side is the client.
  abbrev pub seeing_client : Side → Bool → Bytes → TlsAnalysis K → TlsAnalysis K
  seeing_client s opened b a =
      record a { is_turned = turned (first_message b) s opened a.transport a.is_turned }

  -- These bytes of a side were analyzed, and count.
  abbrev pub analyzing : Side → Bytes → TlsAnalysis K → TlsAnalysis K → TlsAnalysis K
  analyzing s b a new = record (counting s b a) {
    transport = new.transport;
    received = plus a.received (length b);
    collector = new.collector;
  }

  -- This TLS of a side was analyzed. It was in the next bytes of its stream, which were all read.
  -- The stream is read no further if the side is over then.
  abbrev pub AnalyzesTlsIn : TransportAnalyzer → TransportAnalyzer → Side → Bytes → Stream → Stream
      → TlsAnalysis K → TlsAnalysis K → Type 0
  AnalyzesTlsIn (transport.Stream x f) (transport.Stream y g) s tls t u a b =
      IsReadOn x (direction_of a.is_turned s) tls y × (g ≡ f)
      × (u ≡ stopped_if (is_over y (direction_of a.is_turned s))
      (handing_on (length (next_bytes t t.reading)) t))
      × (b ≡ analyzing s tls a b)
  AnalyzesTlsIn (transport.Stream x f) (transport.Datagrams y) s tls t u a b = ⊥
  AnalyzesTlsIn (transport.Datagrams x) y s tls t u a b = (b ≡ a) × (u ≡ t)

  unfoldable pub AnalyzesTls : Side → Bytes → Stream → Stream → TlsAnalysis K → TlsAnalysis K
      → Type 0
  AnalyzesTls s tls t u a b = AnalyzesTlsIn a.transport b.transport s tls t u a b

  -- TLS was found behind n of a side's next bytes: it begins there, and isn't looked for again.
  abbrev pub begun_at : Side → ℕ → TlsAnalysis K → TlsAnalysis K
  begun_at s n a =
      record a { transport = begun_in s (direction_of a.is_turned s) n a.transport }

  abbrev pub AnalyzesAt : Side → Bool → ℕ → Stream → Stream → TlsAnalysis K → TlsAnalysis K
      → Type 0
  AnalyzesAt s opened n t u a b = AnalyzesTls s (drop n (next_bytes t t.reading)) t u
      (begun_at s n (seeing_client s opened (drop n (next_bytes t t.reading)) a)) b

  -- TLS began with a byte in front of the next ones, which isn't in the stream.
  abbrev pub AnalyzesBehindFirst : Side → Bool → Stream → Stream → TlsAnalysis K → TlsAnalysis K
      → Type 0
  AnalyzesBehindFirst s opened t u a b = AnalyzesTls s (22 ∷ next_bytes t t.reading) t u
      (begun_at s 0 (seeing_client s opened (22 ∷ next_bytes t t.reading) a)) b

  -- How far the packets are behind these bytes of a side, if its TLS comes in packets.
  abbrev pub behind_tls_of : Side → Bytes → TlsAnalysis K → TlsAnalysis K
  behind_tls_of s b a = record a { transport = behind_tls_in s b a.transport }

  -- A side's TLS began before its next bytes, or begins with them, whatever they are: the analyzer
  -- looks at its first 5. If the TLS comes in packets, it is taken out of them.
  abbrev pub AnalyzesAll : Side → Bool → Stream → Stream → TlsAnalysis K → TlsAnalysis K → Type 0
  AnalyzesAll s opened t u a b =
      AnalyzesTls s (tls_in_transport s (next_bytes t t.reading) a.transport) t u
      (seeing_client s opened (tls_in_transport s (next_bytes t t.reading) a.transport)
      (behind_tls_of s (next_bytes t t.reading) a)) b

  -- This many bytes of it were skipped, and no more.
  abbrev pub PassesOverIn : TransportAnalyzer → Side → ℕ → Stream → Stream → TlsAnalysis K
      → TlsAnalysis K → Type 0
  PassesOverIn (transport.Stream x f) s n t u a b =
      (b ≡ record a { transport = transport.Stream x (passing s n f) }) × (u ≡ handing_on n t)
  PassesOverIn (transport.Datagrams x) s n t u a b = (b ≡ a) × (u ≡ t)

  unfoldable pub PassesOver : Side → ℕ → Stream → Stream → TlsAnalysis K → TlsAnalysis K → Type 0
  PassesOver s n t u a b = PassesOverIn a.transport s n t u a b

  -- The side was analyzed as one that doesn't speak TLS, and is read no further.
  abbrev pub AnalyzesNoneIn : TransportAnalyzer → TransportAnalyzer → Side → Stream → Stream
      → TlsAnalysis K → TlsAnalysis K → Type 0
  AnalyzesNoneIn (transport.Stream x f) (transport.Stream y g) s t u a b =
      IsReadAsNone x (direction_of a.is_turned s) y × (g ≡ with_preamble s 0 f)
      × (u ≡ stopped t t.reading) × (b ≡ record a { transport = b.transport })
  AnalyzesNoneIn (transport.Stream x f) (transport.Datagrams y) s t u a b = ⊥
  AnalyzesNoneIn (transport.Datagrams x) y s t u a b = (b ≡ a) × (u ≡ t)

  unfoldable pub AnalyzesNone : Side → Stream → Stream → TlsAnalysis K → TlsAnalysis K → Type 0
  AnalyzesNone s t u a b = AnalyzesNoneIn a.transport b.transport s t u a b

  -- A side's SSL 2.0 ClientHello was analyzed.
  abbrev pub AnalyzesHelloIn : TransportAnalyzer → TransportAnalyzer → Side → ssl2.ClientHello
      → TlsAnalysis K → TlsAnalysis K → Type 0
  AnalyzesHelloIn (transport.Stream x f) (transport.Stream y g) s hello a b =
      IsReadInSsl2 x (direction_of b.is_turned s) hello y × (g ≡ f)
      × (b ≡ record a {
        transport = b.transport;
        is_turned = turned (Some 1) s false a.transport a.is_turned;
      })
  AnalyzesHelloIn (transport.Stream x f) (transport.Datagrams y) s hello a b = ⊥
  AnalyzesHelloIn (transport.Datagrams x) y s hello a b = b ≡ a

  unfoldable pub AnalyzesHello : Side → ssl2.ClientHello → TlsAnalysis K → TlsAnalysis K → Type 0
  AnalyzesHello s hello a b = AnalyzesHelloIn a.transport b.transport s hello a b

  -- The dialogue in front of TLS was followed by the next bytes of both streams. What it passed is
  -- skipped, and no more.
  abbrev pub FollowsOnceIn : TransportAnalyzer → Stream → Stream → Stream → Stream
      → TlsAnalysis K → TlsAnalysis K → Type 0
  FollowsOnceIn (transport.Stream x f) t t' u u' a b = (g : Preambles) × (n : ℕ × ℕ)
      × IsFollowedBy (next_bytes t t.reading) (next_bytes u u.reading) f g n
      × (t' ≡ handing_on n.0 t) × (u' ≡ handing_on n.1 u)
      × (b ≡ record a { transport = transport.Stream x g })
  FollowsOnceIn (transport.Datagrams x) t t' u u' a b = (t' ≡ t) × (u' ≡ u) × (b ≡ a)

  unfoldable pub FollowsOnce : Stream → Stream → Stream → Stream → TlsAnalysis K → TlsAnalysis K
      → Type 0
  FollowsOnce t t' u u' a b = FollowsOnceIn a.transport t t' u u' a b

  abbrev pub awaits_of : Side → TlsAnalysis K → Bool
  awaits_of s a = awaits_in s (direction_of a.is_turned s) a.transport

  -- Bytes of a side were skipped since some were missing, if there are any.
  abbrev pub PassesMissing : Side → ℕ → TlsAnalysis K → TlsAnalysis K → Type 0
  PassesMissing s n a b = IsBehindMissingIn a.transport b.transport s n
      × (b ≡ record a { transport = b.transport })

  -- No more bytes of a dialogue in front of TLS come.
  abbrev pub undialogued : TlsAnalysis K → TlsAnalysis K
  undialogued a = record a { transport = without_dialogue_in a.transport }

  abbrev pub AnalyzesBy : Start → Side → Bool → Stream → Stream → TlsAnalysis K → TlsAnalysis K
      → Type 0
  AnalyzesBy Waits s opened t u a b = (u ≡ t) × (b ≡ a)
  AnalyzesBy (Passes n) s opened t u a b = PassesOver s n t u a b
  AnalyzesBy (At n) s opened t u a b = AnalyzesAt s opened n t u a b
  AnalyzesBy BehindFirst s opened t u a b = AnalyzesBehindFirst s opened t u a b
  AnalyzesBy (InSsl2 hello n) s opened t u a b = AnalyzesHello s hello a b × (u ≡ handing_on n t)
  AnalyzesBy Next s opened t u a b = AnalyzesAll s opened t u a b
  AnalyzesBy Nowhere s opened t u a b = AnalyzesNone s t u a b

  -- The next bytes of a side's stream were analyzed from where its TLS begins, or skipped.
  unfoldable pub AnalyzesFurther : Side → Bool → Bool → Stream → Stream → TlsAnalysis K
      → TlsAnalysis K → Type 0
  AnalyzesFurther s opened last t u a b =
      AnalyzesBy
      (begins_in s (direction_of a.is_turned s) last a.transport
      (next_bytes t t.reading)) s opened t u
      a b

  -- A side that is over and has no next bytes is read no further. That of any other is analyzed.
  abbrev pub is_done : Side → Stream → TlsAnalysis K → Bool
  is_done s t a = length (next_bytes t t.reading) == 0
      && is_over_in (direction_of a.is_turned s) a.transport

  abbrev pub AnalyzesUnless : Bool → Side → Bool → Bool → Stream → Stream → TlsAnalysis K
      → TlsAnalysis K → Type 0
  AnalyzesUnless true s opened last t u a b = (u ≡ stopped t t.reading) × (b ≡ a)
  AnalyzesUnless false s opened last t u a b = AnalyzesFurther s opened last t u a b

  unfoldable pub AnalyzesStream : Side → Bool → Bool → Stream → Stream → TlsAnalysis K
      → TlsAnalysis K → Type 0
  AnalyzesStream s opened last t u a b = AnalyzesUnless (is_done s t a) s opened last t u a b

  -- Memory was refused while a side's bytes were analyzed. What was analyzed before counts, and
  -- everything else stays, the bytes included.
  abbrev pub IsCutIn : TlsAnalysis K → TlsAnalysis K → Type 0
  IsCutIn a b = b ≡ record a {
    transport = b.transport;
    is_turned = b.is_turned;
    received = b.received;
    collector = b.collector;
  }

  abbrev pub IsCut : Stream → Stream → TlsAnalysis K → TlsAnalysis K → Type 0
  IsCut t u a b = (u ≡ t) × IsCutIn a b

  -- The next bytes were analyzed, up to and after an urgent byte, if one follows them. Only bytes
  -- before it may show where TLS begins.
  pub data AnalyzesNext (side : Side) (opened : Bool) (t u : Stream) (a b : TlsAnalysis K)
      : Type 0 where
    all :
        has_urgent_next u ≡ false → AnalyzesStream side opened (is_cut_short t t.reading) t u a b
        → AnalyzesNext side opened t u a b
    around_urgent :
        (mid : Stream) (between : TlsAnalysis K)
        → AnalyzesStream side opened (is_cut_short t t.reading) t mid a between
        → has_urgent_next mid ≡ true
        → AnalyzesStream side opened
        (is_cut_short (passing_urgent mid) (passing_urgent mid).reading)
        (passing_urgent mid) u between b
        → AnalyzesNext side opened t u a b

  -- The next bytes were analyzed. In a stream that is read no further, the records in the segment's
  -- bytes are counted, as long as none is missing.
  abbrev pub counting_on : Side → Segment → Stream → TlsAnalysis K → TlsAnalysis K
  counting_on side s t a = if has_data s then counting side (passed t.passing s) a else a

  pub record AnalyzesOn (side : Side) (opened : Bool) (s : Segment) (t u : Stream)
      (a b : TlsAnalysis K) : Type 0 where
    pub mid : Stream
    pub between : TlsAnalysis K
    pub receives : AnalyzesNext side opened t mid a between
    pub passes : u ≡ passing_on s mid
    pub counts : b ≡ counting_on side s mid between

  -- A packet's tunnels are noted, and pieces kept if the log keeps any.
  pub record IsPrepared (ts : Tunnels) (kept : Option PieceKind) (a b : TlsAnalysis K)
      : Type 0 where
    pub tunnels :
        option_map (λ t. t.value) b.tunnels ≡ noted_tunnels ts (option_map (λ t. t.value) a.tunnels)
    pub keeps : is_some b.collector ≡ (is_some kept || is_some a.collector)
    pub stays : (is_some a.collector || not (is_some kept)) ≡ true → b.collector ≡ a.collector
    pub same : b ≡ record a { tunnels = b.tunnels; collector = b.collector }

  -- The records in a side's datagram are counted.
  abbrev pub counted : Side → Bytes → Bool → ℕ → TlsAnalysis K → TlsAnalysis K
  counted s b d13 id_length a = record a {
    by_originator =
        if is_responder s then a.by_originator else with_datagram d13 id_length b a.by_originator;
    by_responder =
        if is_responder s then with_datagram d13 id_length b a.by_responder else a.by_responder;
  }

  -- How the records are written follows from the state after the datagram.
  abbrev pub counting_datagram : Side → Direction → Bytes → datagrams.Analyzer → TlsAnalysis K
      → TlsAnalysis K
  counting_datagram s d b k a = counted s b (is_13 (outcome_at k.flow.state))
      (connection_id_length d k.handshake) a

  -- A side's DTLS datagram was analyzed.
  abbrev pub AnalyzesHeldIn : TransportAnalyzer → TransportAnalyzer → Side → Direction → Bytes
      → TlsAnalysis K → TlsAnalysis K → Type 0
  AnalyzesHeldIn (transport.Datagrams t) (transport.Datagrams u) s d datagram a b =
      ((k : datagrams.Analyzer) → IsKnown k t → IsKnown (received k d datagram) u
      × (b ≡ record (counting_datagram s d datagram (received k d datagram) a) {
        transport = b.transport;
        collector = b.collector;
      }))
      × (b ≡ record a {
        transport = b.transport;
        collector = b.collector;
        by_originator = b.by_originator;
        by_responder = b.by_responder;
      })
  AnalyzesHeldIn (transport.Datagrams t) (transport.Stream y g) s d datagram a b = ⊥
  AnalyzesHeldIn (transport.Stream x f) y s d datagram a b = b ≡ a

  abbrev pub AnalyzesHeld : Side → Bytes → TlsAnalysis K → TlsAnalysis K → Type 0
  AnalyzesHeld s datagram a b =
      AnalyzesHeldIn a.transport b.transport s (direction_of a.is_turned s) datagram a b

  -- If the sides turn, what was analyzed of their datagrams before belongs to no handshake: the
  -- analyzer begins anew. Else nothing changes.
  abbrev pub TurnsIf : Bool → Bool → TlsAnalysis K → TlsAnalysis K → Type 0
  TurnsIf false turned a b = b ≡ a
  TurnsIf true turned a b = IsSilent Udp b.transport
      × (b ≡ record a { transport = b.transport; is_turned = turned })

  abbrev pub TurnsTo : Bool → TlsAnalysis K → TlsAnalysis K → Type 0
  TurnsTo turned a b = TurnsIf (is_other a.is_turned turned) turned a b

  -- The hello that a side's datagram begins with may show which side is the client.
  pub record SeesHello (s : Side) (datagram : Bytes) (a b : TlsAnalysis K) : Type 0 where
    pub direction : Option Direction
    pub decides : Decides direction datagram a.transport
    pub turns : TurnsTo (turned_from direction s a.is_turned) a b

  -- A side's datagram, or the DTLS datagram inside it, was analyzed.
  pub record AnalyzesDatagram (s : Side) (datagram : Bytes) (a b : TlsAnalysis K) : Type 0 where
    pub seen : TlsAnalysis K
    pub sees : SeesHello s datagram a seen
    pub analyzes : AnalyzesHeld s datagram seen b

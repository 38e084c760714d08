-- The state that a connection is analyzed with: both sides' readers, and what was found in their
-- TLS records (RFC 8446, section 5.1).
use Rattle.std.specs.Prelude.{◌≡◌, ◌^◌, ◌-◌, ◌⊎◌, ◌≤◌, ⊤, ℕ, Bool, true, false, not, nat_lt, Option, Some, None, List, [], ◌∷◌, ◌++◌, length, take}
use Rattle.std.specs.Global.{Vec}
use Rattle.layouts.specs.Bytes.{Bytes}
use Rattle.tls_stream.specs.Item.{Event as StreamEvent}
use Rattle.tls_flow.specs.Steps.{silence}
use Rattle.tls_flow.specs.Table.{outcome_at}
use Rattle.tls_flow.specs.declared.symbol.Direction.{Direction as Side}
use Rattle.tls_flow.specs.declared.symbol.Direction.TheVariants.{ToServer, FromServer}
use Rattle.tls_stream.specs.Readers.{IsBegun, IsFedBy, IsPast, reader_of, other}
use Rattle.tls_stream.specs.SideReaders.{further_events}
use Rattle.tls_stream.specs.declared.conversation_reader.ConversationReader.{ConversationReader}
use Rattle.tls_summary.specs.HandshakeSummary.{nothing, view_summary}
use Rattle.tls_detection.specs.Front.{begins_tls}
use Rattle.tls_stream.specs.Events.{default_limit}
use Rattle.tls_analyzer.specs.Following.{IsHelloNoted, IsNoted, known_of, turns, with_fault}
use Rattle.ssl2_hello.specs.ClientHello as ssl2
use Rattle.tls_observer.specs.Ends.{awaits, has_finished}
use Rattle.tls_observer.specs.History.{history}
use Rattle.tls_observer.specs.Noting.{Known, has_sealed, is_sealed, known}
use Rattle.tls_analyzer.specs.declared.analyzer.SideState.{SideState}
use Rattle.tls_analyzer.specs.declared.analyzer.SideState.TheVariants.{Unknown, Clear, Encrypted, Other}
use Rattle.tls_analyzer.specs.declared.analyzer.Analyzer.{Analyzer}

-- What is known of a side.
abbrev pub side_state : Analyzer → Side → SideState
side_state t ToServer = t.client
side_state t FromServer = t.server

-- Whether a side is undecided; and, below, whether it is TLS.
abbrev pub is_unknown_by : SideState → Bool
is_unknown_by Unknown = true
is_unknown_by _ = false

abbrev pub is_unknown : Analyzer → Side → Bool
is_unknown t s = is_unknown_by (side_state t s)

abbrev pub is_tls_by : SideState → Bool
is_tls_by Clear = true
is_tls_by Encrypted = true
is_tls_by _ = false

abbrev pub is_tls_on : Analyzer → Side → Bool
is_tls_on t s = is_tls_by (side_state t s)

abbrev pub with_side_state : Analyzer → Side → SideState → Analyzer
with_side_state t ToServer h = record t { client = h }
with_side_state t FromServer h = record t { server = h }

-- The stored first bytes of a side: too few to decide whether it is TLS.
abbrev pub waiting : Analyzer → Side → Vec ℕ
waiting t ToServer = t.client_first
waiting t FromServer = t.server_first

abbrev pub with_waiting : Analyzer → Side → Vec ℕ → Analyzer
with_waiting t ToServer v = record t { client_first = v }
with_waiting t FromServer v = record t { server_first = v }

-- The analyzer with w as the stored first bytes, and otherwise the same.
abbrev pub Waits : Analyzer → Side → Bytes → Analyzer → Type 0
Waits t s w u = (v : Vec ℕ) × (v.items ≡ w) × (u ≡ with_waiting t s v)

-- Nothing was read.
pub record IsNew (t : Analyzer) : Type 0 where
  pub begun : IsBegun default_limit t.conversation_state.reader
  pub flow : t.conversation_state.flow ≡ silence
  pub handshake : view_summary t.conversation_state.handshake ≡ nothing
  pub history : t.conversation_state.history.items ≡ []
  pub longest : t.conversation_state.longest ≡ 0
  pub is_tls : t.is_tls ≡ false
  pub client : t.client ≡ Unknown
  pub server : t.server ≡ Unknown
  pub client_first : t.client_first.items ≡ []
  pub server_first : t.server_first.items ≡ []

-- The client has sent a record that can hold its Finished.
abbrev pub has_finished_by : Known → Bool
has_finished_by k = has_finished 4 k.handshake k.longest

abbrev pub over_by : SideState → Side → Known → Bool
over_by Encrypted s k = not (awaits s (outcome_at k.flow.state) (has_finished_by k))
over_by Other s k = true
over_by _ s k = false

-- A side is skipped once it is encrypted and the handshake has ended, for the client of TLS 1.3
-- with its Finished; or if it isn't TLS.
abbrev pub is_over : Analyzer → Side → Bool
is_over t s = over_by (side_state t s) s (known_of t.conversation_state)

-- The side is encrypted from here on, if one of its events was.
abbrev pub sealed_if : Bool → SideState → SideState
sealed_if true h = Encrypted
sealed_if false h = h

-- A side's next event is followed, recorded and removed.
abbrev pub IsTaken : Option StreamEvent → Analyzer → Side → Bool → Analyzer → Type 0
IsTaken (Some v) t s taken u =
    (taken ≡ true) × IsNoted t.conversation_state s v u.conversation_state
    × (u ≡ with_side_state (record t { conversation_state = u.conversation_state }) s
    (sealed_if (is_sealed v) (side_state t s)))
IsTaken None t s taken u = (taken ≡ false) × (u ≡ t)

-- What is known of a side after these events of it, the latest first, and whether it is over.
abbrev pub side_state_behind : SideState → List StreamEvent → SideState
side_state_behind h vs = sealed_if (has_sealed vs) h

abbrev pub over_behind : SideState → Side → Known → List StreamEvent → Bool
over_behind h s k vs = over_by (side_state_behind h vs) s (known s k vs)

-- The side wasn't over before any of these.
abbrev pub AreReceived : SideState → Side → Known → List StreamEvent → Type 0
AreReceived h s k [] = ⊤
AreReceived h s k (v ∷ vs) = (over_behind h s k vs ≡ false) × AreReceived h s k vs

-- What is left: for a side that is over, anything; for another, nothing for now, unless 2^64 - 1
-- events were taken.
abbrev pub IsLeft : Bool → Side → List StreamEvent → ConversationReader → ConversationReader
    → Type 0
IsLeft true s vs c d = (reader_of d (other s) ≡ reader_of c (other s)) × (d.is_tls13 ≡ c.is_tls13)
IsLeft false s vs c d =
    (d ≡ c) × ((further_events (reader_of c s) [] ≡ []) ⊎ (2 ^ 64 - 1 ≤ length vs))

-- A side that isn't over gets another piece. Each of its events is followed and recorded, in order,
-- up to the one that ends the side.
pub record IsFollowed (t : Analyzer) (s : Side) (p : Bytes) (u : Analyzer) : Type 0 where
  pub begun : ConversationReader
  pub behind : ConversationReader
  pub sent : List StreamEvent
  pub fed : IsFedBy t.conversation_state.reader s p begun
  pub past : IsPast begun s sent behind
  pub received : AreReceived (side_state t s) s (known_of t.conversation_state) sent
  pub left : IsLeft (over_behind (side_state t s) s
      (known_of t.conversation_state) sent) s sent behind
      u.conversation_state.reader
  pub known : known_of u.conversation_state ≡ known s (known_of t.conversation_state) sent
  pub history : u.conversation_state.history.items ≡ history s
      t.conversation_state.history.items sent
  pub same : u ≡ with_side_state (record t { conversation_state = u.conversation_state }) s
      (side_state_behind (side_state t s) sent)

-- A side that is over is skipped.
abbrev pub IsNextBy : Bool → Analyzer → Side → Bytes → Analyzer → Type 0
IsNextBy true t s b u = u ≡ t
IsNextBy false t s b u = IsFollowed t s b u

abbrev pub IsNext : Analyzer → Side → Bytes → Analyzer → Type 0
IsNext t s b u = IsNextBy (is_over t s) t s b u

-- The side is TLS.
abbrev pub known_as_tls : Analyzer → Side → Analyzer
known_as_tls t s = with_side_state (record t { is_tls = true }) s Clear

-- The first bytes of a side, from the stored w and the new b: up to the 5 of a record's header.
abbrev pub front : Bytes → Bytes → Bytes
front w b = w ++ take (5 - length w) b

-- By whether there are fewer than 5, and whether they begin with such a header. If they don't, just
-- these 5 bytes are read.
abbrev pub IsFirstBy : Bool → Bool → Analyzer → Side → Bytes → Bytes → Analyzer → Type 0
IsFirstBy true tls t s w b u = Waits t s (w ++ b) u
IsFirstBy false true t s w b u =
    (m : Analyzer) × Waits t s [] m × IsNext (known_as_tls m s) s (w ++ b) u
IsFirstBy false false t s w b u =
    (m n : Analyzer) × Waits t s [] m × IsNext m s (front w b) n × (u ≡ with_side_state n s Other)

-- The first bytes of a side are read.
abbrev pub IsFirstRead : Analyzer → Side → Bytes → Bytes → Analyzer → Type 0
IsFirstRead t s w b u =
    IsFirstBy (nat_lt (length b) (5 - length w)) (begins_tls (front w b)) t s w b u

abbrev pub IsReadBy : SideState → Analyzer → Side → Bytes → Analyzer → Type 0
IsReadBy Unknown t s b u = IsFirstRead t s (waiting t s).items b u
IsReadBy h t s b u = IsNext t s b u

-- The next bytes of a side are read.
abbrev pub IsReadOn : Analyzer → Side → Bytes → Analyzer → Type 0
IsReadOn t s b u = IsReadBy (side_state t s) t s b u

-- The side begins with a ClientHello of SSL 2.0's form. What follows it is TLS.
abbrev pub IsReadInSsl2 : Analyzer → Side → ssl2.ClientHello → Analyzer → Type 0
IsReadInSsl2 t s x u = IsHelloNoted t.conversation_state s x u.conversation_state
    × (u ≡ known_as_tls (record t { conversation_state = u.conversation_state }) s)

-- The analyzer after a fault of the side, unless the side was over.
abbrev pub with_fault_unless : Bool → Analyzer → Side → Analyzer
with_fault_unless true t s = t
with_fault_unless false t s =
    record t { conversation_state = with_fault s t.conversation_state }

-- The side isn't TLS, whatever it sends: that counts as a fault, and the side is skipped.
abbrev pub IsReadAsNone : Analyzer → Side → Analyzer → Type 0
IsReadAsNone t s u = u ≡ with_side_state (with_fault_unless (is_over t s) t s) s Other

-- These pieces are read in order, each of its side.
abbrev pub AreReadOn : Analyzer → List (Side × Bytes) → Analyzer → Type 0
AreReadOn t [] u = u ≡ t
AreReadOn t (p ∷ ps) u = (m : Analyzer) × IsReadOn t p.0 p.1 m × AreReadOn m ps u

-- The analyzer after these pieces from the beginning, whatever the cuts: it depends on the turns,
-- which are a side's pieces up to the other side's next one, joined.
pub record IsAnalyzerOf (ps : List (Side × Bytes)) (t : Analyzer) : Type 0 where
  pub begun : Analyzer
  pub new : IsNew begun
  pub received : AreReadOn begun (turns ps) t

-- What an arrival does to the log: its connection accepts it, and that connection's analysis
-- processes it.
use Rattle.std.specs.Prelude.{◌≡◌, ⊤, ℕ, ◌+◌, Bool, true, false, if◌then◌else◌, IfNone, IfSome, Option, Some, None, is_some, List, ◌∷◌}
use Rattle.std.specs.Option.{option_map}
use Rattle.arrivals.specs.Arrival.{five_tuple_in, source_of}
use Rattle.arrivals.specs.Counts.{nothing_counted, one_more}
use Rattle.arrivals.specs.declared.arrival.Arrival.{Arrival}
use Rattle.arrivals.specs.declared.arrival.Arrival.TheVariants as arrival
use Rattle.arrivals.specs.declared.counts.Counts.{Counts}
use Rattle.arrivals.specs.declared.reader.ArrivalReader.{ArrivalReader}
use Rattle.connections.specs.Connection.{is_datagram_damaged, is_for_checksum, lets_in, shows_damage, side_of, verdict_of}
use Rattle.connections.specs.Datagram.{five_tuple_of_datagram}
use Rattle.connections.specs.Memory.{IsSettled}
use Rattle.connections.specs.Segment.{begins, five_tuple_of, has_data, is_refused}
use Rattle.connections.specs.Stream.{with_more_disagreeing}
use Rattle.connections.specs.Table.{BeginsAfter, ComesFirst, DropsDatagram, HasBegun, Replaced, Restarts, Table, TakesDatagram, TakesSegment, at, belongs, changing, closed_behind, ended, others, pending_outcome_in, with_dropped_segment, with_waiting_segment, without_ended, without_pending_segment}
use Rattle.connections.specs.Waiting.{Kept}
use Rattle.connections.specs.declared.connection.Connection.{Connection}
use Rattle.connections.specs.declared.connection.Side.{Side}
use Rattle.connections.specs.declared.connection.Side.TheVariants.{Originator, Responder}
use Rattle.connections.specs.declared.connection.Verdict.{Verdict}
use Rattle.connections.specs.declared.datagram.Datagram.{Datagram}
use Rattle.connections.specs.declared.five_tuple.FiveTuple.{FiveTuple}
use Rattle.connections.specs.declared.five_tuple.Protocol.TheVariants.{Tcp, Udp}
use Rattle.connections.specs.declared.pending.PendingOutcome.TheVariants as outcome
use Rattle.connections.specs.declared.pending.TheConstants.{MAX_PENDING}
use Rattle.connections.specs.declared.receiver.DropReason.{DropReason}
use Rattle.connections.specs.declared.receiver.Judgement.{Judgement}
use Rattle.connections.specs.declared.receiver.Judgement.TheVariants as judgement
use Rattle.connections.specs.declared.segment.Segment.{Segment}
use Rattle.tls_detection.specs.Front.{held_datagram}
use Rattle.log_connections.specs.Accessors.{BeginsAnother}
use Rattle.log_connections.specs.Analysis.{AnalyzesDatagram, IsBegun, direction_of}
use Rattle.log_connections.specs.Capacity.{IsWeighedAt, most_bytes_of}
pub use Rattle.log_connections.specs.Sides.{AnalyzesKept, AnalyzesSender, AnalyzesSide, AnalyzesWaiting, FollowsDialogue, FollowsIf, FollowsOpened, IsReady}
use Rattle.log_connections.specs.Sink.{EndsAs}
use Rattle.log_connections.specs.declared.analysis.TlsAnalysis.{TlsAnalysis}
use Rattle.log_connections.specs.declared.exchanges.Delivery.{Delivery}
use Rattle.log_connections.specs.declared.exchanges.Delivery.TheVariants as delivery
use Rattle.log_connections.specs.declared.log.Reception.{Reception}
use Rattle.log_connections.specs.declared.log.Reception.TheVariants as reception

-- The connections of all other five-tuples stay.
module _ {X : Type 0} where
  pub record KeepsOthers (e : FiveTuple) (xs ys : List (FiveTuple × X)) : Type 0 where
    pub same : (f : FiveTuple) → (e ≡ f → ⊥) → at f ys ≡ at f xs

-- The reader of packets, but for its counts.
abbrev pub uncounted : ArrivalReader → ArrivalReader
uncounted r = record r { counts = nothing_counted }

-- A segment is analyzed at once exactly if its connection is open, and the receiver's verdict lets
-- it in.
abbrev pub IsReceived : Reception → Option Verdict → Type 0
IsReceived (reception.Received closed) v = option_map lets_in v ≡ Some true
IsReceived (reception.Judged verdict) v = (v ≡ Some verdict) × (lets_in verdict ≡ false)
IsReceived reception.NoneOpen v = v ≡ None

abbrev pub is_received : Reception → Bool
is_received (reception.Received closed) = true
is_received (reception.Judged verdict) = false
is_received reception.NoneOpen = false

-- Whether both sides closed its connection then.
abbrev pub IsClosedAs : Reception → Bool → Type 0
IsClosedAs (reception.Received closed) is_closed = closed ≡ is_closed
IsClosedAs (reception.Judged verdict) is_closed = ⊤
IsClosedAs reception.NoneOpen is_closed = ⊤

-- The reader counts more.
abbrev pub counting : (Counts → Counts) → ArrivalReader → ArrivalReader
counting adds r = record r { counts = adds r.counts }

-- A packet that its receiver drops for a wrong checksum counts as damaged. One that belongs to no
-- connection does, or counts as stray if it has data.
abbrev pub damaged_if : Bool → Counts → Counts
damaged_if true c = record c { damaged = one_more c.damaged }
damaged_if false c = c

abbrev pub with_dropped : DropReason → Counts → Counts
with_dropped reason c = damaged_if (is_for_checksum reason) c

abbrev pub stray_if : Bool → Counts → Counts
stray_if true c = record c { stray_segments = one_more c.stray_segments }
stray_if false c = c

abbrev pub with_stray : Segment → Counts → Counts
with_stray s c =
    if is_refused s.checksum then damaged_if true c else stray_if (has_data s) c

abbrev pub stray_unless : Bool → Segment → Counts → Counts
stray_unless true s c = c
stray_unless false s c = with_stray s c

-- A segment that its open connection's receiver drops, or that waits, is counted by the reason
-- against it. No other is counted.
abbrev pub with_judged : Judgement → Counts → Counts
with_judged judgement.Taken c = c
with_judged judgement.Again c = c
with_judged (judgement.Waiting reason) c = with_dropped reason c
with_judged (judgement.Dropped reason) c = with_dropped reason c

abbrev pub with_judged_if : Bool → Bool → Judgement → Counts → Counts
with_judged_if true begins_another j c = c
with_judged_if false true j c = c
with_judged_if false false j c = with_judged j c

abbrev pub with_verdict : Verdict → Counts → Counts
with_verdict v c = with_judged_if v.shows_damage v.begins_another v.judgement c

-- So a segment counts by its open connection's verdict, or without one by whether it belongs to a
-- connection; and a datagram by whether its checksum counts as wrong in its open exchange, or
-- without one by whether it is wrong.
abbrev pub with_segment : Option Verdict → Bool → Segment → Counts → Counts
with_segment None belongs s c = stray_unless belongs s c
with_segment (Some v) belongs s c = with_verdict v c

abbrev pub with_datagram : Option Bool → Bool → Counts → Counts
with_datagram None is_wrong c = damaged_if is_wrong c
with_datagram (Some damaged) is_wrong c = damaged_if damaged c

module _ {K : Type 0} where
  -- The segment's connection takes it, and the next bytes of its sender's stream are analyzed. One
  -- that begins has analyzed nothing before. All other connections stay.
  pub record AnalyzesSegment (Prepares : TlsAnalysis K → TlsAnalysis K → Type 0) (s : Segment)
      (old new : Table (TlsAnalysis K)) : Type 0 where
    pub put : Connection (TlsAnalysis K)
    pub its : Connection (TlsAnalysis K)
    pub takes : TakesSegment s (at (five_tuple_of s) old.live) put
    pub begun : at (five_tuple_of s) old.live ≡ None → IsBegun Tcp put.attachment
    pub receives : AnalyzesSide Prepares s (side_of put s.source) put its
    pub stands : new.live ≡ (five_tuple_of s, its) ∷ others (five_tuple_of s) old.live
    pub closed : new.closed ≡ closed_behind true s old

  -- A segment without a connection changes none.
  abbrev pub Logs : Bool → Segment → Table (TlsAnalysis K) → Table (TlsAnalysis K) → Type 0
  Logs true s old new = AnalyzesSegment IsReady s old new
  Logs false s old new = new ≡ old

  -- The connection of a segment that is analyzed was prepared in this way for its packet.
  abbrev pub IsPreparedIf : Bool → (TlsAnalysis K → TlsAnalysis K → Type 0) → Segment
      → Table (TlsAnalysis K) → Table (TlsAnalysis K) → Type 0
  IsPreparedIf true Prepares s old new = AnalyzesSegment Prepares s old new
  IsPreparedIf false Prepares s old new = ⊤

  -- What its open connection's receiver does with a segment; and whether both sides closed it.
  abbrev pub verdict_in : Segment → Table (TlsAnalysis K) → Option Verdict
  verdict_in s t = option_map (verdict_of s) (at (five_tuple_of s) t.live)

  abbrev pub is_closed_in : Segment → Table (TlsAnalysis K) → Bool
  is_closed_in s t = is_some (ended (five_tuple_of s) t)

  -- A segment that its open connection analyzed is logged. For any other nothing changes.
  abbrev pub LogsOpen : Reception → Segment → Table (TlsAnalysis K) → Table (TlsAnalysis K) → Type 0
  LogsOpen (reception.Received closed) s old new = AnalyzesSegment IsReady s old new
  LogsOpen (reception.Judged verdict) s old new = new ≡ old
  LogsOpen reception.NoneOpen s old new = new ≡ old

  -- A closed connection ends, and counts as closed from then on. Any other stays.
  pub record EndsClosed (s : Segment) (old new : Table (TlsAnalysis K))
      (over : Option (Connection (TlsAnalysis K))) : Type 0 where
    pub ends : EndsAs false (ended (five_tuple_of s) old) over
    pub left : new ≡ without_ended (five_tuple_of s) s.time old

  -- The connection of an analyzed segment ends if it is closed.
  abbrev pub EndsAfter : Option Bool → Segment → Table (TlsAnalysis K) → Table (TlsAnalysis K)
      → Option (Connection (TlsAnalysis K)) → Type 0
  EndsAfter (Some true) s old new over = EndsClosed s old new over
  EndsAfter (Some false) s old new over = (new ≡ old) × (over ≡ None)
  EndsAfter None s old new over = (new ≡ old) × (over ≡ None)

  -- A segment that belongs to a connection is analyzed in it, which ends if it is closed then. Any
  -- other changes nothing.
  abbrev pub TakesIf : Bool → Segment → Table (TlsAnalysis K) → Table (TlsAnalysis K)
      → Option (Connection (TlsAnalysis K)) → Type 0
  TakesIf true s old new over =
      (mid : Table (TlsAnalysis K)) × AnalyzesSegment IsReady s old mid × EndsClosed s mid new over
  TakesIf false s old new over = (new ≡ old) × (over ≡ None)

  abbrev pub TakesIn : Segment → Table (TlsAnalysis K) → Table (TlsAnalysis K)
      → Option (Connection (TlsAnalysis K)) → Type 0
  TakesIn s old new over = TakesIf (belongs s old) s old new over

  -- A pending segment is analyzed. Its connection comes first then, and all others stay.
  abbrev pub AnalyzesPending : (TlsAnalysis K → TlsAnalysis K → Type 0) → FiveTuple → Kept
      → Table (TlsAnalysis K) → Table (TlsAnalysis K) → Type 0
  AnalyzesPending Prepares e k old new =
      ComesFirst e (AnalyzesKept Prepares k) (at e old.live) old new

  -- A pending segment that a segment acknowledges is taken out, and analyzed if bytes of it are
  -- missing; or there is none.
  pub data AnalyzesOne (s : Segment) (old new : Table (TlsAnalysis K)) : Bool → Type 0 where
    none : pending_outcome_in s old ≡ None → new ≡ without_pending_segment s old
        → AnalyzesOne s old new false
    had : pending_outcome_in s old ≡ Some outcome.Had → new ≡ without_pending_segment s old
        → AnalyzesOne s old new true
    taken :
        (k : Kept) → pending_outcome_in s old ≡ Some (outcome.Taken k)
        → AnalyzesPending IsReady (five_tuple_of s) k (without_pending_segment s old) new
        → AnalyzesOne s old new true

  -- The pending segments that a segment acknowledges are analyzed one by one, at most this many.
  pub data AnalyzesAcknowledged (s : Segment)
      : ℕ → Table (TlsAnalysis K) → Table (TlsAnalysis K) → Type 0 where
    enough : (t : Table (TlsAnalysis K)) → AnalyzesAcknowledged s 0 t t
    no_more :
        (n : ℕ) (t u : Table (TlsAnalysis K)) → AnalyzesOne s t u false
        → AnalyzesAcknowledged s n t u
    one_then :
        (m n : ℕ) (t mid u : Table (TlsAnalysis K)) → m ≡ n + 1 → AnalyzesOne s t mid true
        → AnalyzesAcknowledged s n mid u → AnalyzesAcknowledged s m t u

  abbrev pub AnalyzesAllAcknowledged : Segment → Table (TlsAnalysis K) → Table (TlsAnalysis K)
      → Type 0
  AnalyzesAllAcknowledged s old new = AnalyzesAcknowledged s MAX_PENDING old new

  -- The receiver takes a segment or already has it: it is analyzed, behind the pending ones that it
  -- acknowledges, if it may acknowledge any.
  abbrev pub TakesBehind : Bool → Segment → Table (TlsAnalysis K) → Table (TlsAnalysis K)
      → Option (Connection (TlsAnalysis K)) → Type 0
  TakesBehind true s old new over =
      (mid : Table (TlsAnalysis K)) × AnalyzesAllAcknowledged s old mid × TakesIn s mid new over
  TakesBehind false s old new over = TakesIn s old new over

  -- Everything before a segment was damaged: its connection restarts, with nothing analyzed, and
  -- takes it.
  abbrev pub TakesAnew : Segment → Table (TlsAnalysis K) → Table (TlsAnalysis K)
      → Option (Connection (TlsAnalysis K)) → Type 0
  TakesAnew s old new over =
      (mid : Table (TlsAnalysis K)) × Restarts s old mid × TakesIn s mid new over
      × IfSome (at (five_tuple_of s) old.live)
      (λ c. HasBegun IsBegun c.protocol (five_tuple_of s) mid.live)

  -- Another connection begins in place of the open one, which ends, with nothing analyzed, and
  -- analyzes the segment.
  pub record TakesInAnother (s : Segment) (old new : Table (TlsAnalysis K))
      (over : Option (Connection (TlsAnalysis K))) : Type 0 where
    pub was : Option (Connection (TlsAnalysis K))
    pub mid : Table (TlsAnalysis K)
    pub replaced : Replaced s old mid was
    pub begun : IfSome was (λ _. HasBegun IsBegun Tcp (five_tuple_of s) mid.live)
    pub logs : Logs (belongs s mid) s mid new
    pub ends : EndsAs false was over

  -- Memory was refused for a segment that begins another connection, before or behind the moment
  -- when that took the place of the open one, which ended then.
  pub data RefusesInAnother (s : Segment) (old new : Table (TlsAnalysis K))
      : Option (Connection (TlsAnalysis K)) → Type 0 where
    before_another : new ≡ old → RefusesInAnother s old new None
    behind_another :
        (was over : Option (Connection (TlsAnalysis K))) (mid : Table (TlsAnalysis K))
        → Replaced s old mid was → EndsAs false was over
        → KeepsOthers (five_tuple_of s) mid.live new.live → RefusesInAnother s old new over

  abbrev pub AcceptsJudged : Judgement → Bool → Segment → Table (TlsAnalysis K)
      → Table (TlsAnalysis K) → Option (Connection (TlsAnalysis K)) → Type 0
  AcceptsJudged judgement.Taken acknowledges s old new over =
      TakesBehind acknowledges s old new over
  AcceptsJudged judgement.Again acknowledges s old new over =
      TakesBehind acknowledges s old new over
  AcceptsJudged (judgement.Waiting r) acknowledges s old new over =
      (new ≡ with_waiting_segment r s old) × (over ≡ None)
  AcceptsJudged (judgement.Dropped r) acknowledges s old new over =
      (new ≡ with_dropped_segment r s old) × (over ≡ None)

  -- The log does what the verdict requires.
  abbrev pub AcceptsIf : Bool → Bool → Judgement → Bool → Segment → Table (TlsAnalysis K)
      → Table (TlsAnalysis K) → Option (Connection (TlsAnalysis K)) → Type 0
  AcceptsIf true begins_another j acknowledges s old new over = TakesAnew s old new over
  AcceptsIf false true j acknowledges s old new over = TakesInAnother s old new over
  AcceptsIf false false j acknowledges s old new over = AcceptsJudged j acknowledges s old new over

  abbrev pub AcceptsBy : Verdict → Segment → Table (TlsAnalysis K) → Table (TlsAnalysis K)
      → Option (Connection (TlsAnalysis K)) → Type 0
  AcceptsBy v s old new over =
      AcceptsIf v.shows_damage v.begins_another v.judgement v.acknowledges s old new over

  -- A segment is accepted by the verdict of its open connection. Without one it may begin one.
  abbrev pub AcceptsAt : Option Verdict → Segment → Table (TlsAnalysis K) → Table (TlsAnalysis K)
      → Option (Connection (TlsAnalysis K)) → Type 0
  AcceptsAt (Some v) s old new over = AcceptsBy v s old new over
  AcceptsAt None s old new over = TakesIn s old new over

  abbrev pub AcceptsSegment : Segment → Table (TlsAnalysis K) → Table (TlsAnalysis K)
      → Option (Connection (TlsAnalysis K)) → Type 0
  AcceptsSegment s old new over = AcceptsAt (verdict_in s old) s old new over

  -- Memory was refused for a segment. A connection is over by it only if another one took its
  -- place.
  abbrev pub RefusesIf : Bool → Bool → Segment → Table (TlsAnalysis K) → Table (TlsAnalysis K)
      → Option (Connection (TlsAnalysis K)) → Type 0
  RefusesIf true begins_another s old new over = over ≡ None
  RefusesIf false true s old new over = RefusesInAnother s old new over
  RefusesIf false false s old new over = over ≡ None

  abbrev pub RefusesAt : Option Verdict → Segment → Table (TlsAnalysis K) → Table (TlsAnalysis K)
      → Option (Connection (TlsAnalysis K)) → Type 0
  RefusesAt (Some v) s old new over = RefusesIf v.shows_damage v.begins_another s old new over
  RefusesAt None s old new over = over ≡ None

  abbrev pub RefusesSegment : Segment → Table (TlsAnalysis K) → Table (TlsAnalysis K)
      → Option (Connection (TlsAnalysis K)) → Type 0
  RefusesSegment s old new over = RefusesAt (verdict_in s old) s old new over

  -- A datagram, or the DTLS datagram inside it, is analyzed. Everything else in the exchange stays.
  abbrev pub AnalyzesFrom : (TlsAnalysis K → TlsAnalysis K → Type 0) → Datagram
      → Connection (TlsAnalysis K) → Connection (TlsAnalysis K) → Type 0
  AnalyzesFrom Prepares d c c' =
      (a : TlsAnalysis K) × Prepares c.attachment a
      × AnalyzesDatagram (side_of c d.source) (held_datagram d.payload.now) a c'.attachment
      × (c' ≡ record c { attachment = c'.attachment })

  -- An exchange that a datagram begins, or restarts because it shows that everything before was
  -- damaged, has analyzed nothing before.
  abbrev pub IsBegunBy : Datagram → Option (Connection (TlsAnalysis K)) → Connection (TlsAnalysis K)
      → Type 0
  IsBegunBy d None put = IsBegun Udp put.attachment
  IsBegunBy d (Some c) put =
      shows_damage (side_of c d.source) d.checksum c ≡ true → IsBegun c.protocol put.attachment

  -- The datagram's exchange takes and analyzes it. All others stay.
  pub record LogsDatagram (Prepares : TlsAnalysis K → TlsAnalysis K → Type 0) (d : Datagram)
      (old new : Table (TlsAnalysis K)) : Type 0 where
    pub put : Connection (TlsAnalysis K)
    pub its : Connection (TlsAnalysis K)
    pub takes : TakesDatagram d (at (five_tuple_of_datagram d) old.live) put
    pub begun : IsBegunBy d (at (five_tuple_of_datagram d) old.live) put
    pub receives : AnalyzesFrom Prepares d put its
    pub stands : new.live ≡ (five_tuple_of_datagram d, its) ∷ others
        (five_tuple_of_datagram d) old.live
    pub closed : new.closed ≡ old.closed

  -- A datagram's checksum counts as wrong in its open exchange; and it begins another DTLS
  -- association there.
  abbrev pub is_damaged_in : Datagram → Table (TlsAnalysis K) → Option Bool
  is_damaged_in d t = option_map (is_datagram_damaged d) (at (five_tuple_of_datagram d) t.live)

  abbrev pub BeginsAnotherIn : Bool → Datagram → Option (Connection (TlsAnalysis K)) → Type 0
  BeginsAnotherIn begins d None = ⊥
  BeginsAnotherIn begins d (Some c) =
      BeginsAnother begins (direction_of c.attachment.is_turned (side_of c d.source))
      (held_datagram d.payload.now) c.attachment.transport

  -- How a datagram is delivered: analyzed, damaged, beginning another association, or without an
  -- open exchange.
  abbrev pub IsDelivered : Delivery → Datagram → Table (TlsAnalysis K) → Type 0
  IsDelivered delivery.Received d t = (is_damaged_in d t ≡ Some false)
      × BeginsAnotherIn false d (at (five_tuple_of_datagram d) t.live)
  IsDelivered delivery.Damaged d t = is_damaged_in d t ≡ Some true
  IsDelivered delivery.BeginsAnother d t = (is_damaged_in d t ≡ Some false)
      × BeginsAnotherIn true d (at (five_tuple_of_datagram d) t.live)
  IsDelivered delivery.NoneOpen d t = is_damaged_in d t ≡ None

  -- A datagram that its open exchange analyzed is logged, and a damaged one counted. For any other
  -- nothing changes.
  abbrev pub LogsExchange : Delivery → Datagram → Table (TlsAnalysis K)
      → Table (TlsAnalysis K) → Type 0
  LogsExchange delivery.Received d old new = LogsDatagram IsReady d old new
  LogsExchange delivery.Damaged d old new = DropsDatagram d true old new
  LogsExchange delivery.BeginsAnother d old new = new ≡ old
  LogsExchange delivery.NoneOpen d old new = new ≡ old

  -- The exchange of one that is analyzed was prepared in this way for its packet.
  abbrev pub IsPreparedAt : Delivery → (TlsAnalysis K → TlsAnalysis K → Type 0) → Datagram
      → Table (TlsAnalysis K) → Table (TlsAnalysis K) → Type 0
  IsPreparedAt delivery.Received Prepares d old new = LogsDatagram Prepares d old new
  IsPreparedAt delivery.Damaged Prepares d old new = ⊤
  IsPreparedAt delivery.BeginsAnother Prepares d old new = ⊤
  IsPreparedAt delivery.NoneOpen Prepares d old new = ⊤

  -- A datagram begins an exchange, unless no receiver takes it.
  abbrev pub BeginsUnless : Bool → Datagram → Table (TlsAnalysis K) → Table (TlsAnalysis K) → Type 0
  BeginsUnless true d old new = new ≡ old
  BeginsUnless false d old new = LogsDatagram IsReady d old new

  -- Another exchange begins with the datagram in place of the open one, which ends.
  pub record LogsInAnother (d : Datagram) (old new : Table (TlsAnalysis K))
      (over : Option (Connection (TlsAnalysis K))) : Type 0 where
    pub mid : Table (TlsAnalysis K)
    pub begins : BeginsAfter d (at (five_tuple_of_datagram d) old.live) old mid
    pub begun : HasBegun IsBegun Udp (five_tuple_of_datagram d) mid.live
    pub logs : LogsDatagram IsReady d mid new
    pub ends : EndsAs false (at (five_tuple_of_datagram d) old.live) over

  abbrev pub AcceptsDelivered : Delivery → Datagram → Table (TlsAnalysis K) → Table (TlsAnalysis K)
      → Option (Connection (TlsAnalysis K)) → Type 0
  AcceptsDelivered delivery.Received d old new over = LogsDatagram IsReady d old new × (over ≡ None)
  AcceptsDelivered delivery.Damaged d old new over = DropsDatagram d true old new × (over ≡ None)
  AcceptsDelivered delivery.BeginsAnother d old new over = LogsInAnother d old new over
  AcceptsDelivered delivery.NoneOpen d old new over =
      BeginsUnless (is_refused d.checksum) d old new × (over ≡ None)

  -- A datagram is analyzed in its open exchange, is counted there, or begins one.
  pub record AcceptsDatagram (d : Datagram) (old new : Table (TlsAnalysis K))
      (over : Option (Connection (TlsAnalysis K))) : Type 0 where
    pub way : Delivery
    pub is : IsDelivered way d old
    pub accepts : AcceptsDelivered way d old new over

  -- Memory was refused for a datagram that begins another association, before or behind the moment
  -- when its exchange took the place of the open one, which ended then.
  pub data RefusesInNext (d : Datagram) (old new : Table (TlsAnalysis K))
      : Option (Connection (TlsAnalysis K)) → Type 0 where
    before_next : new ≡ old → RefusesInNext d old new None
    behind_next :
        (over : Option (Connection (TlsAnalysis K))) (mid : Table (TlsAnalysis K))
        → BeginsAfter d (at (five_tuple_of_datagram d) old.live) old mid
        → EndsAs false (at (five_tuple_of_datagram d) old.live) over
        → KeepsOthers (five_tuple_of_datagram d) mid.live new.live
        → RefusesInNext d old new over

  -- Memory was refused for a datagram. An exchange is over by it only if another one took its
  -- place.
  abbrev pub RefusesDelivered : Delivery → Datagram → Table (TlsAnalysis K) → Table (TlsAnalysis K)
      → Option (Connection (TlsAnalysis K)) → Type 0
  RefusesDelivered delivery.Received d old new over = over ≡ None
  RefusesDelivered delivery.Damaged d old new over = over ≡ None
  RefusesDelivered delivery.BeginsAnother d old new over = RefusesInNext d old new over
  RefusesDelivered delivery.NoneOpen d old new over = over ≡ None

  pub record RefusesDatagram (d : Datagram) (old new : Table (TlsAnalysis K))
      (over : Option (Connection (TlsAnalysis K))) : Type 0 where
    pub way : Delivery
    pub is : IsDelivered way d old
    pub refuses : RefusesDelivered way d old new over

  abbrev pub Refuses : Arrival → Table (TlsAnalysis K) → Table (TlsAnalysis K)
      → Option (Connection (TlsAnalysis K)) → Type 0
  Refuses (arrival.Segment s) old new over = RefusesSegment s old new over
  Refuses (arrival.Datagram d) old new over = RefusesDatagram d old new over

  abbrev pub Takes : Arrival → Table (TlsAnalysis K) → Table (TlsAnalysis K)
      → Option (Connection (TlsAnalysis K)) → Type 0
  Takes (arrival.Segment s) old new over = AcceptsSegment s old new over
  Takes (arrival.Datagram d) old new over = AcceptsDatagram d old new over

  -- What an arrival adds to the counts, by the connections that are open before it.
  abbrev pub with_arrival : Arrival → Table (TlsAnalysis K) → Counts → Counts
  with_arrival (arrival.Segment s) old c = with_segment (verdict_in s old) (belongs s old) s c
  with_arrival (arrival.Datagram d) old c =
      with_datagram (is_damaged_in d old) (is_refused d.checksum) c

  -- Bytes that disagreed in a datagram's fragments are counted for the sender of the arrival
  -- inside.
  abbrev pub disagreeing_from : Side → ℕ → Connection (TlsAnalysis K) → Connection (TlsAnalysis K)
  disagreeing_from Originator n c =
      record c { from_originator = with_more_disagreeing n c.from_originator }
  disagreeing_from Responder n c =
      record c { from_responder = with_more_disagreeing n c.from_responder }

  abbrev pub disagreeing_of : Arrival → ℕ → Connection (TlsAnalysis K) → Connection (TlsAnalysis K)
  disagreeing_of a n c = disagreeing_from (side_of c (source_of a)) n c

  abbrev pub with_disagreeing : Arrival → ℕ → Table (TlsAnalysis K) → Table (TlsAnalysis K)
  with_disagreeing a n t = changing (five_tuple_in a) (disagreeing_of a n) t

-- What holds where the memory of an arrival's connection is accounted anew: wherever its bytes may
-- change and it stays open. A segment that is let in at once without data, or that is dropped and
-- not kept, brings no bytes.
module _ {C : Type 0} (over : Option C) (Weighed : Type 0) where
  abbrev pub WhereJudged : Judgement → Segment → Type 0
  WhereJudged judgement.Taken s = IfNone over Weighed
  WhereJudged judgement.Again s = IfNone over Weighed
  WhereJudged (judgement.Waiting r) s = IfNone over Weighed
  WhereJudged (judgement.Dropped r) s = begins s ≡ true → IfNone over Weighed

  abbrev pub WhereBegun : Bool → Bool → Judgement → Segment → Type 0
  WhereBegun true begins_another j s = IfNone over Weighed
  WhereBegun false true j s = Weighed
  WhereBegun false false j s = WhereJudged j s

  abbrev pub WhereLetIn : Bool → Verdict → Segment → Type 0
  WhereLetIn true v s = has_data s ≡ true → IfNone over Weighed
  WhereLetIn false v s = WhereBegun v.shows_damage v.begins_another v.judgement s

  abbrev pub WhereSegment : Option Verdict → Segment → Type 0
  WhereSegment None s = IfNone over Weighed
  WhereSegment (Some v) s = WhereLetIn (lets_in v) v s

-- What holds of a segment by its reception in its open connection: only received data counts.
abbrev pub WhereReceived : Reception → Type 0 → Segment → Type 0
WhereReceived (reception.Received closed) Weighed s = has_data s ≡ true → Weighed
WhereReceived (reception.Judged verdict) Weighed s = ⊤
WhereReceived reception.NoneOpen Weighed s = ⊤

-- A datagram with a wrong checksum is only counted.
abbrev pub WhereDatagram : Option Bool → Type 0 → Type 0
WhereDatagram None Weighed = Weighed
WhereDatagram (Some true) Weighed = ⊤
WhereDatagram (Some false) Weighed = Weighed

abbrev pub WhereDelivered : Delivery → Type 0 → Type 0
WhereDelivered delivery.Received Weighed = Weighed
WhereDelivered delivery.Damaged Weighed = ⊤
WhereDelivered delivery.BeginsAnother Weighed = ⊤
WhereDelivered delivery.NoneOpen Weighed = ⊤

module _ {K : Type 0} where
  abbrev pub WhereWeighed : Arrival → Table (TlsAnalysis K) → Option (Connection (TlsAnalysis K))
      → Type 0 → Type 0
  WhereWeighed (arrival.Segment s) old over Weighed = WhereSegment over Weighed (verdict_in s old) s
  WhereWeighed (arrival.Datagram d) old over Weighed = WhereDatagram (is_damaged_in d old) Weighed

module _ {K : Type 0} (M : K → ℕ) where
  -- The accounted memory of this five-tuple's connection bounds what it takes, unless it is to be
  -- updated.
  abbrev pub IsWeighedUnless : Bool → FiveTuple → Table (TlsAnalysis K) → Type 0
  IsWeighedUnless is_due e t = is_due ≡ false → IsWeighedAt M e t

  -- The accounted memory of this five-tuple's connection is updated, if that is due. M is the most
  -- that its collector takes.
  abbrev pub Settles : Bool → FiveTuple → Table (TlsAnalysis K) → Table (TlsAnalysis K) → Type 0
  Settles true e old new = IsSettled (most_bytes_of M) e (at e old.live) old new
  Settles false e old new = new ≡ old

  -- An arrival is added to its connection and analyzed. The connection that it ended was removed.
  -- The memory of one whose bytes may have changed is accounted anew.
  pub record Accepts (a : Arrival) (old new : Table (TlsAnalysis K))
      (over : Option (Connection (TlsAnalysis K))) : Type 0 where
    pub mid : Table (TlsAnalysis K)
    pub takes : Takes a old mid over
    pub is_due : Bool
    pub settles : Settles is_due (five_tuple_in a) mid new
    pub weighs : WhereWeighed a old over (IsWeighedAt M (five_tuple_in a) new)

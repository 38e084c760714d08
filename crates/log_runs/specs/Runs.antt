-- A run of a log: the packets of a capture, one after another, and its end.
use Rattle.std.specs.Prelude.{◌≡◌, ◌⊎◌, ℕ, Bool, true, false, ◌&&◌, not, Option, Some, None, List, [], ◌∷◌, ◌++◌}
use Rattle.arrivals.specs.Arrival.{five_tuple_in}
use Rattle.arrivals.specs.declared.arrival.Arrival.{Arrival}
use Rattle.arrivals.specs.declared.arrival.Arrival.TheVariants as arrival
use Rattle.arrivals.specs.declared.reader.ArrivalReader.{ArrivalReader}
use Rattle.connections.specs.Datagram.{five_tuple_of_datagram}
use Rattle.connections.specs.FiveTuple.{is_five_tuple}
use Rattle.connections.specs.Segment.{five_tuple_of, is_refused}
use Rattle.connections.specs.Table.{Table, belongs}
use Rattle.connections.specs.declared.connection.Connection.{Connection}
use Rattle.connections.specs.declared.connection.Verdict.{Verdict}
use Rattle.connections.specs.declared.five_tuple.FiveTuple.{FiveTuple}
use Rattle.packets.specs.Section.{Packet}
use Rattle.log_connections.specs.declared.analysis.TlsAnalysis.{TlsAnalysis}
use Rattle.log_connections.specs.declared.sink.LogError.{LogError}
use Rattle.log_connections.specs.declared.exchanges.Delivery.{Delivery}
use Rattle.log_connections.specs.declared.exchanges.Delivery.TheVariants as delivery
use Rattle.log_runs.specs.Counting.{entry_of}
use Rattle.log_connections.specs.Log.{Takes, verdict_in}
use Rattle.log_connections.specs.Packet.{Arrives, Handles, HandlesContent, Processes, StopsHandling, ends, goes_on}
use Rattle.log_connections.specs.Packet.Arrives.{is_refused as has_no_memory}
use Rattle.log_connections.specs.Reading.{Content, InFragments, Nothing, Whole}
use Rattle.log_connections.specs.Sink.{EndInTurn, EndsLast, IsEnded, IsOfSink, IsOpen, PassesAllButLast, PassesEnded}
use Rattle.log_connections.specs.Sink.EndInTurn.{none, one}

-- The connection that an arrival begins, by its five-tuple.
abbrev pub begun_if : Bool → FiveTuple → List FiveTuple
begun_if true e = e ∷ []
begun_if false e = []

-- A segment without an open connection begins one if it belongs to one. With one it begins another
-- in its place if the verdict says so.
abbrev pub begins_by : Option Verdict → Bool → Bool
begins_by None belongs = belongs
begins_by (Some v) belongs = not v.shows_damage && v.begins_another

-- A datagram without an open exchange begins one unless its checksum is wrong. With one it begins
-- another in its place if it begins another DTLS association.
abbrev pub begins_exchange : Delivery → Bool → Bool
begins_exchange delivery.Received refused = false
begins_exchange delivery.Damaged refused = false
begins_exchange delivery.BeginsAnother refused = true
begins_exchange delivery.NoneOpen refused = not refused

module _ {K : Type 0} where
  -- The connections that ended in turn, each with its five-tuple.
  abbrev pub ended_in :
      {early : Bool}
      {Is : List (FiveTuple × Connection (TlsAnalysis K)) → Connection (TlsAnalysis K) → Type 0}
      {xs ys : List (FiveTuple × Connection (TlsAnalysis K))}
      {outs : List (Connection (TlsAnalysis K))} → EndInTurn early Is xs ys outs
      → List (FiveTuple × Connection (TlsAnalysis K))
  ended_in none = []
  ended_in (one ys zs outs c c' before is last) = ended_in before ++ (last.five_tuple, c') ∷ []

  -- The longest-idle connection, if one ended.
  abbrev pub last_ended : (xs ys : List (FiveTuple × Connection (TlsAnalysis K)))
      (o : Option (Connection (TlsAnalysis K))) → EndsLast true xs ys o
      → List (FiveTuple × Connection (TlsAnalysis K))
  last_ended xs ys None is = []
  last_ended xs ys (Some c) is = (is.1.five_tuple, c) ∷ []

  -- The connection that an accepted arrival begins.
  abbrev pub begun_by : (a : Arrival) (old mid : Table (TlsAnalysis K))
      (over : Option (Connection (TlsAnalysis K))) → Takes a old mid over → List FiveTuple
  begun_by (arrival.Segment s) old mid over takes =
      begun_if (begins_by (verdict_in s old) (belongs s old)) (five_tuple_of s)
  begun_by (arrival.Datagram d) old mid over takes =
      begun_if (begins_exchange takes.way (is_refused d.checksum)) (five_tuple_of_datagram d)

module _ {K : Type 0} {M : K → ℕ} where
  module _ {a : Arrival} {old new : Table (TlsAnalysis K)}
      {before after : Option (List (Connection (TlsAnalysis K)))} where
    -- The connection that an arrival begins; the one that memory is refused for; and those that
    -- come out by it.
    abbrev pub begun_in : Arrives M a old new before after → List FiveTuple
    begun_in (ends over accepts received) =
        begun_by a old accepts.mid (Some over) accepts.takes
    begun_in (goes_on mid accepts lent received) = begun_by a old accepts.mid None accepts.takes
    begun_in (has_no_memory mid over refuses others ended) = []

    abbrev pub refused_in : Arrives M a old new before after → List FiveTuple
    refused_in (ends over accepts received) = []
    refused_in (goes_on mid accepts lent received) = []
    refused_in (has_no_memory mid over refuses others ended) = five_tuple_in a ∷ []

    abbrev pub outs_in : Arrives M a old new before after
        → List (FiveTuple × Connection (TlsAnalysis K))
    outs_in (ends over accepts received) = (five_tuple_in a, over) ∷ []
    outs_in (goes_on mid accepts lent received) = []
    outs_in (has_no_memory mid over refuses others ended) =
        entry_of (five_tuple_in a) over
        ++ (entry_of (five_tuple_in a) ended.2.own
        ++ last_ended _ new.live ended.2.oldest ended.2.oldest_ends)

  -- First the idle connections come out, then those that the arrival ends, then those beyond the
  -- memory limit.
  abbrev pub outs_by : {a : Arrival} {limit : ℕ} {old new : Table (TlsAnalysis K)}
      {before after : Option (List (Connection (TlsAnalysis K)))}
      → Processes M a limit old new before after → List (FiveTuple × Connection (TlsAnalysis K))
  outs_by p = ended_in p.idle.ended ++ (outs_in p.arrives ++ ended_in p.evicted.ended)

-- What a packet's content begins and ends. M is the most memory that a collector takes.
module _ {K : Type 0} (M : K → ℕ) where
  module _ (limit : ℕ) (old new : Table (TlsAnalysis K))
      (before after : Option (List (Connection (TlsAnalysis K)))) where
    abbrev pub begun_of : (c : Content) → HandlesContent M c limit old new before after
        → List FiveTuple
    begun_of Nothing h = []
    begun_of (Whole a) h = begun_in h.arrives
    begun_of (InFragments a n) h = begun_in h.processes.arrives

    abbrev pub refused_of : (c : Content) → HandlesContent M c limit old new before after
        → List FiveTuple
    refused_of Nothing h = []
    refused_of (Whole a) h = refused_in h.arrives
    refused_of (InFragments a n) h = refused_in h.processes.arrives

    abbrev pub outs_of : (c : Content) → HandlesContent M c limit old new before after
        → List (FiveTuple × Connection (TlsAnalysis K))
    outs_of Nothing h = []
    outs_of (Whole a) h = outs_by h
    outs_of (InFragments a n) h = outs_by h.processes

  -- The log handles each of these packets, from the first one on.
  pub data HandlesEach (limit : ℕ) (reader : ArrivalReader) (old : Table (TlsAnalysis K))
      (before : Option (List (Connection (TlsAnalysis K))))
      : List Packet → ArrivalReader → Table (TlsAnalysis K)
      → Option (List (Connection (TlsAnalysis K))) → Type 0 where
    none_yet : HandlesEach limit reader old before [] reader old before
    one_more :
        (packets : List Packet) (p : Packet) (read reads : ArrivalReader)
        (mid new : Table (TlsAnalysis K))
        (between after : Option (List (Connection (TlsAnalysis K))))
        → HandlesEach limit reader old before packets read mid between
        → Handles M p limit read reads mid new between after
        → HandlesEach limit reader old before (packets ++ p ∷ []) reads new after

  -- Behind them the capture ends: all open connections come out, the longest-idle one first.
  pub record IsRun (limit : ℕ) (packets : List Packet) (reader : ArrivalReader)
      (old new : Table (TlsAnalysis K))
      (before after : Option (List (Connection (TlsAnalysis K)))) : Type 0 where
    pub read : ArrivalReader
    pub last : Table (TlsAnalysis K)
    pub between : Option (List (Connection (TlsAnalysis K)))
    pub handles : HandlesEach limit reader old before packets read last between
    pub ends : PassesEnded false IsOpen last.live new.live between after
    pub none_open : new.live ≡ []

  -- The run stopped: at one of the packets, or at the end, where the sink refused a connection.
  pub data StopsRun {E : Type 0} (limit : ℕ) (packets : List Packet) (reader : ArrivalReader)
      (error : LogError E) (old new : Table (TlsAnalysis K))
      (before after : Option (List (Connection (TlsAnalysis K)))) : Type 0 where
    at_packet :
        (done rest : List Packet) (p : Packet) (read : ArrivalReader)
        (mid : Table (TlsAnalysis K)) (between : Option (List (Connection (TlsAnalysis K))))
        → packets ≡ done ++ p ∷ rest
        → HandlesEach limit reader old before done read mid between
        → StopsHandling M p limit read error mid new between after
        → StopsRun limit packets reader error old new before after
    at_end :
        (read : ArrivalReader) (last : Table (TlsAnalysis K))
        (between : Option (List (Connection (TlsAnalysis K))))
        → HandlesEach limit reader old before packets read last between → IsOfSink error
        → PassesAllButLast false IsOpen last.live new.live between after
        → StopsRun limit packets reader error old new before after

module _ {K : Type 0} {M : K → ℕ} where
  module _ {limit : ℕ} {reader : ArrivalReader} {old : Table (TlsAnalysis K)}
      {before : Option (List (Connection (TlsAnalysis K)))} where
    -- The connections that began over these packets, in order; those that memory was refused for;
    -- and those that came out.
    abbrev pub begun_over : {packets : List Packet} {read : ArrivalReader}
        {new : Table (TlsAnalysis K)} {after : Option (List (Connection (TlsAnalysis K)))}
        → HandlesEach M limit reader old before packets read new after → List FiveTuple
    begun_over none_yet = []
    begun_over (one_more packets p read reads mid new between after h handles) =
        begun_over h ++ begun_of M limit mid new between after handles.content handles.handles

    abbrev pub refused_over : {packets : List Packet} {read : ArrivalReader}
        {new : Table (TlsAnalysis K)} {after : Option (List (Connection (TlsAnalysis K)))}
        → HandlesEach M limit reader old before packets read new after → List FiveTuple
    refused_over none_yet = []
    refused_over (one_more packets p read reads mid new between after h handles) =
        refused_over h ++ refused_of M limit mid new between after handles.content handles.handles

    abbrev pub outs_over : {packets : List Packet} {read : ArrivalReader}
        {new : Table (TlsAnalysis K)} {after : Option (List (Connection (TlsAnalysis K)))}
        → HandlesEach M limit reader old before packets read new after
        → List (FiveTuple × Connection (TlsAnalysis K))
    outs_over none_yet = []
    outs_over (one_more packets p read reads mid new between after h handles) =
        outs_over h ++ outs_of M limit mid new between after handles.content handles.handles

  -- The log of a run: all connections that came out in it, each with its five-tuple.
  abbrev pub log_of : {limit : ℕ} {packets : List Packet} {reader : ArrivalReader}
      {old new : Table (TlsAnalysis K)} {before after : Option (List (Connection (TlsAnalysis K)))}
      → IsRun M limit packets reader old new before after
      → List (FiveTuple × Connection (TlsAnalysis K))
  log_of run = outs_over run.handles ++ ended_in run.ends.ended

-- It isn't of this five-tuple.
abbrev pub is_of_other : FiveTuple → Content → Bool
is_of_other e Nothing = true
is_of_other e (Whole a) = not (is_five_tuple (five_tuple_in a) e)
is_of_other e (InFragments a n) = not (is_five_tuple (five_tuple_in a) e)

module _ {K : Type 0} where
  -- It came out among these, as it ended, early or not.
  abbrev pub ComesOut : FiveTuple → Connection (TlsAnalysis K)
      → List (FiveTuple × Connection (TlsAnalysis K)) → Type 0
  ComesOut e c [] = ⊥
  ComesOut e c (x ∷ outs) =
      ((x.0 ≡ e) × ((early : Bool) × IsEnded early c x.1)) ⊎ ComesOut e c outs

  -- The connection of this five-tuple, if there was one, is open as it was, or came out. Without
  -- one there is none.
  abbrev pub StaysOrComesOut : FiveTuple → Option (Connection (TlsAnalysis K))
      → Option (Connection (TlsAnalysis K)) → List (FiveTuple × Connection (TlsAnalysis K))
      → Type 0
  StaysOrComesOut e None now outs = now ≡ None
  StaysOrComesOut e (Some c) now outs = (now ≡ Some c) ⊎ ComesOut e c outs

module _ {K : Type 0} {M : K → ℕ} where
  -- None of these packets is of this five-tuple.
  abbrev pub are_of_others : FiveTuple → {limit : ℕ} {reader : ArrivalReader}
      {old : Table (TlsAnalysis K)} {before : Option (List (Connection (TlsAnalysis K)))}
      {packets : List Packet} {read : ArrivalReader} {new : Table (TlsAnalysis K)}
      {after : Option (List (Connection (TlsAnalysis K)))}
      → HandlesEach M limit reader old before packets read new after → Bool
  are_of_others e none_yet = true
  are_of_others e (one_more packets p read reads mid new between after h handles) =
      are_of_others e h && is_of_other e handles.content

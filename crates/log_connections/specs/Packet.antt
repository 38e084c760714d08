-- What a packet does to a log, and what its sink receives then.
use Rattle.std.specs.Prelude.{◌≡◌, ℕ, ◌≤◌, Bool, true, false, is_some, List, [], ◌∷◌, ◌++◌, Option, Some, None}
use Rattle.arrivals.specs.Arrival.{five_tuple_in, time_of}
use Rattle.arrivals.specs.Fragments.{ReadsWhole, datagram_of}
use Rattle.arrivals.specs.declared.arrival.Arrival.{Arrival}
use Rattle.arrivals.specs.declared.counts.Counts.{Counts}
use Rattle.arrivals.specs.declared.fragments.CompletedDatagram.{CompletedDatagram}
use Rattle.arrivals.specs.declared.reader.ArrivalReader.{ArrivalReader}
use Rattle.connections.specs.Memory.{FitsClosed, IsAccounted, open_part, total}
use Rattle.connections.specs.Table.{IsForgotten, NoneIsOver, NoneToForget, Table, at, with_other}
use Rattle.connections.specs.declared.five_tuple.FiveTuple.{FiveTuple}
use Rattle.connections.specs.declared.connection.Connection.{Connection}
use Rattle.packets.specs.Section.{Packet}
use Rattle.log_connections.specs.Analysis.{are_passed}
use Rattle.log_connections.specs.Found.{AreCounted}
use Rattle.log_connections.specs.Log.{Accepts, KeepsOthers, Refuses, uncounted, with_arrival, with_disagreeing}
use Rattle.log_connections.specs.Reading.{Content, Holds, HoldsInside, InFragments, NeedsMemory, Nothing, Whole}
use Rattle.log_connections.specs.Sink.{Adds, EndsAfterRefusal, IsOverLimit, IsIdle, IsOfMemory, IsOfSink, PassesAllButLast, PassesEnded, StopsAfterRefusal, TakesPieces, as_list}
use Rattle.log_connections.specs.declared.analysis.PieceKind.{PieceKind}
use Rattle.log_connections.specs.declared.analysis.TlsAnalysis.{TlsAnalysis}
use Rattle.log_connections.specs.declared.sink.LogError.{LogError}

-- Pieces of connections are passed on with each packet, and not with the connection.
abbrev pub passes_on : Option PieceKind → Bool
passes_on None = false
passes_on (Some kind) = are_passed kind

-- Something happens, by which the sink is lent these connections.
abbrev pub Lending : {C : Type 0} (Happens : Type 0) → (Happens → List C) → Option (List C)
    → Option (List C) → Type 0
Lending Happens lent before after = (happens : Happens) × Adds before after (lent happens)

-- The sink is lent an open connection, if pieces are passed on.
abbrev pub lent_if : {X : Type 0} → Bool → Option X → List X
lent_if true o = as_list o
lent_if false o = []

module _ {K : Type 0} where
  -- The sink was lent an open connection, to take its pieces. All others stay.
  abbrev pub IsLent : FiveTuple → Option (Connection (TlsAnalysis K)) → Table (TlsAnalysis K)
      → Table (TlsAnalysis K) → Type 0
  IsLent e None old new = new ≡ old
  IsLent e (Some c) old new = (c' : Connection (TlsAnalysis K)) × TakesPieces c c'
      × (new ≡ with_other e c' old)

  -- Bytes that disagreed are counted in the arrival's connection, unless they were.
  abbrev pub noted_if : Bool → Arrival → ℕ → Table (TlsAnalysis K) → Table (TlsAnalysis K)
  noted_if true a n t = t
  noted_if false a n t = with_disagreeing a n t

-- M is the most memory that a connection's collector takes.
module _ {K : Type 0} (M : K → ℕ) where
  -- An arrival is accepted. The sink receives the connection that is over by it. Without memory for
  -- the arrival, it receives the connection that another one replaced, the arrival's connection,
  -- and the longest-idle one.
  pub data Arrives (a : Arrival) (old new : Table (TlsAnalysis K))
      (before after : Option (List (Connection (TlsAnalysis K)))) : Type 0 where
    ends :
        (over : Connection (TlsAnalysis K)) → Accepts M a old new (Some over)
        → Adds before after (over ∷ []) → Arrives a old new before after
    goes_on :
        (mid : Table (TlsAnalysis K)) → Accepts M a old mid None
        → IsLent (five_tuple_in a) (at (five_tuple_in a) mid.live) mid new → Adds before after []
        → Arrives a old new before after
    is_refused :
        (mid : Table (TlsAnalysis K)) (over : Option (Connection (TlsAnalysis K)))
        → Refuses a old mid over → KeepsOthers (five_tuple_in a) old.live mid.live
        → EndsAfterRefusal (five_tuple_in a) over mid.live new.live before after
        → Arrives a old new before after

  -- The sink refused the connection that is over by an arrival, its pieces, or one of those that
  -- end without memory for the arrival; or there was none to end. All others stay.
  pub data StopsArriving {E : Type 0} (a : Arrival) (error : LogError E)
      (old new : Table (TlsAnalysis K))
      (before after : Option (List (Connection (TlsAnalysis K)))) : Type 0 where
    at_over :
        (over : Connection (TlsAnalysis K)) → IsOfSink error → Accepts M a old new (Some over)
        → Adds before after [] → StopsArriving a error old new before after
    at_pieces :
        (mid : Table (TlsAnalysis K)) → IsOfSink error → Accepts M a old mid None
        → IsLent (five_tuple_in a) (at (five_tuple_in a) mid.live) mid new → Adds before after []
        → StopsArriving a error old new before after
    at_refused :
        (mid : Table (TlsAnalysis K)) (over : Option (Connection (TlsAnalysis K)))
        → Refuses a old mid over → KeepsOthers (five_tuple_in a) old.live mid.live
        → StopsAfterRefusal (five_tuple_in a) over mid new before after error
        → StopsArriving a error old new before after

module _ {K : Type 0} {M : K → ℕ} {a : Arrival} {old new : Table (TlsAnalysis K)}
    {before after : Option (List (Connection (TlsAnalysis K)))} where
  -- The connections that are over by an arrival.
  abbrev pub over_in : Arrives M a old new before after → List (Connection (TlsAnalysis K))
  over_in (ends over accepts received) = over ∷ []
  over_in (goes_on mid accepts lent received) = []
  over_in (is_refused mid over refuses others ended) =
      as_list over ++ (as_list ended.2.own ++ as_list ended.2.oldest)

  -- The sink is lent the connection of an arrival, if pieces are passed on, unless a connection is
  -- over by the arrival, or memory was refused for it.
  abbrev pub lent_in : Bool → Arrives M a old new before after → List (Connection (TlsAnalysis K))
  lent_in passes (ends over accepts received) = []
  lent_in passes (goes_on mid accepts lent received) =
      lent_if passes (at (five_tuple_in a) mid.live)
  lent_in passes (is_refused mid over refuses others ended) = []

  -- It may have failed at that.
  abbrev pub lent_at : Bool → {E : Type 0} {error : LogError E}
      → StopsArriving M a error old new before after → List (Connection (TlsAnalysis K))
  lent_at passes (at_over over of_sink accepts received) = []
  lent_at passes (at_pieces mid of_sink accepts lent received) =
      lent_if passes (at (five_tuple_in a) mid.live)
  lent_at passes (at_refused mid over refuses others stops) = []

  -- An arrival is counted, and then the connections that are over by it.
  abbrev pub CountsArrival : Arrives M a old new before after → Counts → Counts → Type 0
  CountsArrival arrives counts counts' =
      AreCounted (over_in arrives) (with_arrival a old counts) counts'

module _ {K : Type 0} (M : K → ℕ) where
  -- First the connections end that timed out before the arrival, then it is accepted, and then the
  -- longest-idle ones end that exceed the memory limit. Of the closed ones those are forgotten that
  -- were closed long before, and those that exceed the limit.
  pub record Processes (a : Arrival) (limit : ℕ) (old new : Table (TlsAnalysis K))
      (before after : Option (List (Connection (TlsAnalysis K)))) : Type 0 where
    pub awake : Table (TlsAnalysis K)
    pub full : Table (TlsAnalysis K)
    pub first : Option (List (Connection (TlsAnalysis K)))
    pub second : Option (List (Connection (TlsAnalysis K)))
    pub idle : PassesEnded false (IsIdle (time_of a)) old.live awake.live before first
    pub none_idle : NoneIsOver (time_of a) awake.live
    pub forgotten : IsForgotten (time_of a) old.closed awake.closed
    pub none_to_forget : NoneToForget (time_of a) awake.closed
    pub arrives : Arrives M a awake full first second
    pub evicted : PassesEnded true (IsOverLimit full limit) full.live new.live second after
    pub within : IsAccounted old → total new.live ≤ open_part limit
    pub closed : FitsClosed limit full.closed new.closed

  -- The sink refused one of the connections that timed out, or of those that exceed the limit, or
  -- processing stopped at the arrival. No connection is lost but the one that the sink refused.
  pub data Stops {E : Type 0} (a : Arrival) (limit : ℕ) (error : LogError E)
      (old new : Table (TlsAnalysis K))
      (before after : Option (List (Connection (TlsAnalysis K)))) : Type 0 where
    at_idle :
        IsOfSink error
        → PassesAllButLast false (IsIdle (time_of a)) old.live new.live before after
        → Stops a limit error old new before after
    at_arrival :
        (awake : Table (TlsAnalysis K)) (first : Option (List (Connection (TlsAnalysis K))))
        → PassesEnded false (IsIdle (time_of a)) old.live awake.live before first
        → NoneIsOver (time_of a) awake.live → StopsArriving M a error awake new first after
        → Stops a limit error old new before after
    at_eviction :
        (awake full : Table (TlsAnalysis K))
        (first second : Option (List (Connection (TlsAnalysis K))))
        → PassesEnded false (IsIdle (time_of a)) old.live awake.live before first
        → NoneIsOver (time_of a) awake.live → Arrives M a awake full first second → IsOfSink error
        → PassesAllButLast true (IsOverLimit full limit) full.live new.live second after
        → Stops a limit error old new before after

module _ {K : Type 0} {M : K → ℕ} {a : Arrival} {limit : ℕ} {old new : Table (TlsAnalysis K)}
    {before after : Option (List (Connection (TlsAnalysis K)))} where
  -- The connections that ended are counted one after another, and the arrival between them. No
  -- clause says what is counted if processing stops.
  pub record CountsProcessed (p : Processes M a limit old new before after)
      (counts counts' : Counts) : Type 0 where
    pub behind_idle : Counts
    pub behind_arrival : Counts
    pub idle : AreCounted p.idle.outs counts behind_idle
    pub arrives : CountsArrival p.arrives behind_idle behind_arrival
    pub evicted : AreCounted p.evicted.outs behind_arrival counts'

  abbrev pub lent_until : Bool → {E : Type 0} {error : LogError E}
      → Stops M a limit error old new before after → List (Connection (TlsAnalysis K))
  lent_until passes (at_idle of_sink idle) = []
  lent_until passes (at_arrival awake first idle none stops) = lent_at passes stops
  lent_until passes (at_eviction awake full first second idle none arrives of_sink evicted) =
      lent_in passes arrives

module _ {K : Type 0} (M : K → ℕ) where
  -- An arrival in a reassembled datagram is processed. Bytes that differed in its fragments are
  -- counted in the arrival's connection, before or after.
  pub record ProcessesInside (a : Arrival) (n limit : ℕ) (old new : Table (TlsAnalysis K))
      (before after : Option (List (Connection (TlsAnalysis K)))) : Type 0 where
    pub processed : Table (TlsAnalysis K)
    pub processes : Processes M a limit (with_disagreeing a n old) processed before after
    pub noted : new ≡ noted_if (is_some (at (five_tuple_in a) old.live)) a n processed

  -- A packet's content is processed. Without any, no connection changes.
  abbrev pub HandlesContent : Content → ℕ → Table (TlsAnalysis K) → Table (TlsAnalysis K)
      → Option (List (Connection (TlsAnalysis K))) → Option (List (Connection (TlsAnalysis K)))
      → Type 0
  HandlesContent Nothing limit old new before after = (new ≡ old) × Adds before after []
  HandlesContent (Whole a) limit old new before after = Processes M a limit old new before after
  HandlesContent (InFragments a n) limit old new before after =
      ProcessesInside a n limit old new before after

  module _ (limit : ℕ) (old new : Table (TlsAnalysis K))
      (before after : Option (List (Connection (TlsAnalysis K)))) where
    -- Of the reader, processing changes counts only. Without an arrival it changes nothing.
    abbrev pub IsReadBehind : (c : Content) → HandlesContent c limit old new before after
        → ArrivalReader → ArrivalReader → Type 0
    IsReadBehind Nothing handles read reader = reader ≡ read
    IsReadBehind (Whole a) handles read reader =
        (uncounted reader ≡ uncounted read)
        × CountsProcessed handles read.counts reader.counts
    IsReadBehind (InFragments a n) handles read reader =
        (uncounted reader ≡ uncounted read)
        × CountsProcessed handles.processes read.counts reader.counts

    abbrev pub lent_of : Bool → (c : Content) → HandlesContent c limit old new before after
        → List (Connection (TlsAnalysis K))
    lent_of passes Nothing handles = []
    lent_of passes (Whole a) handles = lent_in passes handles.arrives
    lent_of passes (InFragments a n) handles = lent_in passes handles.processes.arrives

  -- What the reader finds, for this relation of the reader behind it and the content, is processed.
  pub record HandlesBy (Finds : ArrivalReader → Content → Type 0) (limit : ℕ)
      (reader : ArrivalReader) (old new : Table (TlsAnalysis K))
      (before after : Option (List (Connection (TlsAnalysis K)))) : Type 0 where
    pub content : Content
    pub read : ArrivalReader
    pub finds : Finds read content
    pub handles : HandlesContent content limit old new before after
    pub is_read : IsReadBehind limit old new before after content handles read reader

  -- What the reader finds in a packet is processed.
  abbrev pub Handles : Packet → ℕ → ArrivalReader → ArrivalReader → Table (TlsAnalysis K)
      → Table (TlsAnalysis K) → Option (List (Connection (TlsAnalysis K)))
      → Option (List (Connection (TlsAnalysis K))) → Type 0
  Handles p limit reader reader' old new before after =
      HandlesBy (Holds p reader) limit reader' old new before after

  abbrev pub StopsContent : {E : Type 0} → Content → ℕ → LogError E → Table (TlsAnalysis K)
      → Table (TlsAnalysis K) → Option (List (Connection (TlsAnalysis K)))
      → Option (List (Connection (TlsAnalysis K))) → Type 0
  StopsContent Nothing limit error old new before after = ⊥
  StopsContent (Whole a) limit error old new before after =
      Stops M a limit error old new before after
  StopsContent (InFragments a n) limit error old new before after =
      Stops M a limit error (with_disagreeing a n old) new before after

  module _ {E : Type 0} (limit : ℕ) (error : LogError E) (old new : Table (TlsAnalysis K))
      (before after : Option (List (Connection (TlsAnalysis K)))) where
    abbrev pub lent_of_stopped : Bool → (c : Content)
        → StopsContent c limit error old new before after → List (Connection (TlsAnalysis K))
    lent_of_stopped passes Nothing stops = []
    lent_of_stopped passes (Whole a) stops = lent_until passes stops
    lent_of_stopped passes (InFragments a n) stops = lent_until passes stops

  -- Memory was refused to the reader, which needed some, and no connection changed; or processing
  -- stopped.
  pub data StopsBy {E : Type 0} (Finds : ArrivalReader → Content → Type 0) (Needs : Type 0)
      (limit : ℕ) (error : LogError E) (old new : Table (TlsAnalysis K))
      (before after : Option (List (Connection (TlsAnalysis K)))) : Type 0 where
    at_reader :
        IsOfMemory error → Needs → new ≡ old → Adds before after []
        → StopsBy Finds Needs limit error old new before after
    at_content :
        (content : Content) (read : ArrivalReader) → Finds read content
        → StopsContent content limit error old new before after
        → StopsBy Finds Needs limit error old new before after

  abbrev pub StopsHandling : {E : Type 0} → Packet → ℕ → ArrivalReader → LogError E
      → Table (TlsAnalysis K) → Table (TlsAnalysis K) → Option (List (Connection (TlsAnalysis K)))
      → Option (List (Connection (TlsAnalysis K))) → Type 0
  StopsHandling p limit reader error old new before after =
      StopsBy (Holds p reader) (NeedsMemory p reader) limit error old new before after

module _ {K : Type 0} {M : K → ℕ} {limit : ℕ} {old new : Table (TlsAnalysis K)}
    {before after : Option (List (Connection (TlsAnalysis K)))} where
  -- What the sink is lent for what the reader finds.
  abbrev pub lent_by : Bool → {Finds : ArrivalReader → Content → Type 0} {reader : ArrivalReader}
      → HandlesBy M Finds limit reader old new before after → List (Connection (TlsAnalysis K))
  lent_by passes h = lent_of M limit old new before after passes h.content h.handles

  abbrev pub lent_before : Bool → {E : Type 0} {error : LogError E}
      {Finds : ArrivalReader → Content → Type 0} {Needs : Type 0}
      → StopsBy M Finds Needs limit error old new before after → List (Connection (TlsAnalysis K))
  lent_before passes (at_reader of_memory needs same received) = []
  lent_before passes (at_content content read finds stops) =
      lent_of_stopped M limit _ old new before after passes content stops

module _ {K : Type 0} (M : K → ℕ) (passes : Bool) where
  -- A reassembled datagram holds an arrival, which is processed. Or it holds none, and nothing
  -- happens.
  abbrev pub HandlesInside : Bool → Packet → CompletedDatagram → ℕ → ArrivalReader → ArrivalReader
      → Table (TlsAnalysis K) → Table (TlsAnalysis K) → Option (List (Connection (TlsAnalysis K)))
      → Option (List (Connection (TlsAnalysis K))) → Option (List (Connection (TlsAnalysis K)))
      → Option (List (Connection (TlsAnalysis K))) → Type 0
  HandlesInside true p d limit reader reader' old new before after lent lent' =
      Lending (HandlesBy M (HoldsInside p d reader) limit reader' old new before after)
      (lent_by passes) lent lent'
  HandlesInside false p d limit reader reader' old new before after lent lent' =
      ReadsWhole p d.tunnels (datagram_of d) reader reader' None × (new ≡ old)
      × (after ≡ before) × (lent' ≡ lent)

-- Connections that behave by their own arrivals alone.
use Rattle.std.specs.Prelude.{◌≡◌, ⊤, ℕ, ◌-◌, ◌≤◌, Bool, true, false, ◌&&◌, ◌||◌, not, nat_lt, if◌then◌else◌, is_some, Option, Some, None, List, [], ◌∷◌, ◌++◌, filter, length, map}
use Rattle.std.specs.Option.{option_map}
use Rattle.arrivals.specs.Arrival.{five_tuple_in, time_of}
use Rattle.arrivals.specs.declared.arrival.Arrival.{Arrival}
use Rattle.arrivals.specs.declared.arrival.Arrival.TheVariants as arrival
use Rattle.arrivals.specs.declared.reader.ArrivalReader.{ArrivalReader}
use Rattle.connection_parts.specs.declared.part.Part.{Part}
use Rattle.connections.specs.FiveTuple.{is_five_tuple}
use Rattle.connections.specs.Segment.{begins, begins_one}
use Rattle.connections.specs.Table.{Table, at}
use Rattle.connections.specs.declared.connection.Connection.{Connection}
use Rattle.connections.specs.declared.five_tuple.FiveTuple.{FiveTuple}
use Rattle.connections.specs.declared.table.TheConstants.{IDLE_LIMIT, MAX_CONNECTIONS}
use Rattle.packets.specs.Section.{Packet}
use Rattle.log_connections.specs.Packet.{HandlesContent, Processes}
use Rattle.log_connections.specs.Reading.{Content, InFragments, Nothing, Whole}
use Rattle.log_connections.specs.Sink.{EndInTurn, as_list}
use Rattle.log_connections.specs.Sink.EndInTurn.{none, one}
use Rattle.log_connections.specs.declared.analysis.TlsAnalysis.{TlsAnalysis}
use Rattle.log_runs.specs.Parts.{is_of_part}
use Rattle.log_runs.specs.Runs.{HandlesEach, IsRun, ended_in, none_yet, one_more, outs_in, refused_in}

-- Each five-tuple has one entry at most.
abbrev pub Distinct : {X : Type 0} → List (FiveTuple × X) → Type 0
Distinct [] = ⊤
Distinct (x ∷ xs) = (at x.0 xs ≡ None) × Distinct xs

-- The connections are in the order of their last packets, the latest first, and none is later than
-- this time.
abbrev pub InTime : {T : Type 0} → ℕ → List (FiveTuple × Connection T) → Type 0
InTime time [] = ⊤
InTime time (x ∷ xs) = (x.1.last_time ≤ time) × InTime x.1.last_time xs

-- A segment belongs to an open connection or begins one, which may be closed then. After a closed
-- connection only a SYN begins one. A datagram closes nothing.
abbrev pub may_close : Arrival → Bool → Option ℕ → Bool
may_close (arrival.Segment s) was_open closed =
    was_open || (begins_one s && (begins s || not (is_some closed)))
may_close (arrival.Datagram d) was_open closed = false

-- Since when a five-tuple counts as closed after a segment of its connection: since then, if the
-- connection isn't open any more. One that begins no longer counts as closed.
abbrev pub closed_since : Bool → Bool → ℕ → Option ℕ → Option ℕ
closed_since false was_open time closed = Some time
closed_since true true time closed = closed
closed_since true false time closed = None

-- Since when the five-tuple of an arrival counts as closed after it, by whether its connection was
-- open before and is open now, and since when it counted as closed before.
abbrev pub closed_by : Arrival → Bool → Bool → Option ℕ → Option ℕ
closed_by a was_open is_open closed =
    if may_close a was_open closed then closed_since is_open was_open (time_of a) closed else closed

-- How connections behave, each by itself. V is what counts of a connection, and A of an arrival. An
-- arrival changes the connection of its five-tuple, which may be over by it, by what it was before
-- and since when it counted as closed.
pub record Behavior (K V A : Type 0) : Type 0 where
  pub view : Connection (TlsAnalysis K) → V
  pub last : V → ℕ
  pub is_last : (c : Connection (TlsAnalysis K)) → last (view c) ≡ c.last_time
  pub seen : Arrival → A
  pub time : A → ℕ
  pub is_time : (a : Arrival) → time (seen a) ≡ time_of a
  pub five_tuple : A → FiveTuple
  pub is_five_tuple_of : (a : Arrival) → five_tuple (seen a) ≡ five_tuple_in a
  pub becomes : A → Option V → Option ℕ → Option V
  pub over : A → Option V → Option ℕ → Option V
  pub closed : A → Bool → Bool → Option ℕ → Option ℕ
  pub is_closed_by : (a : Arrival) (was_open is_open : Bool) (o : Option ℕ)
      → closed (seen a) was_open is_open o ≡ closed_by a was_open is_open o
  pub ended : V → V

-- It was idle for longer than the limit.
abbrev pub is_idle : ℕ → ℕ → Bool
is_idle time last = nat_lt IDLE_LIMIT (time - last)

-- A connection that was closed that long ago no longer counts as closed.
abbrev pub recent : ℕ → Option ℕ → Option ℕ
recent time None = None
recent time (Some last) = if is_idle time last then None else Some last

module _ {K V A : Type 0} (b : Behavior K V A) where
  -- What came out under a five-tuple.
  abbrev pub views : FiveTuple → List (FiveTuple × Connection (TlsAnalysis K)) → List V
  views e outs = map (λ x. b.view x.1) (filter (λ x. is_five_tuple e x.0) outs)

  -- Each connection that ended came out as its own state says.
  abbrev pub EndAs :
      {early : Bool}
      {Is : List (FiveTuple × Connection (TlsAnalysis K)) → Connection (TlsAnalysis K) → Type 0}
      {xs ys : List (FiveTuple × Connection (TlsAnalysis K))}
      {outs : List (Connection (TlsAnalysis K))} → EndInTurn early Is xs ys outs → Type 0
  EndAs none = ⊤
  EndAs (one ys zs outs c c' before is last) = EndAs before × (b.view c' ≡ b.ended (b.view c))

  module _ {M : K → ℕ} {a : Arrival} {limit : ℕ} {old new : Table (TlsAnalysis K)}
      {before after : Option (List (Connection (TlsAnalysis K)))} where
    -- What it does to the connection of the arrival's five-tuple, by this function.
    abbrev pub done_by : {X : Type 0} → (A → Option V → Option ℕ → X)
        → Processes M a limit old new before after → X
    done_by f p = f (b.seen a) (option_map b.view (at (five_tuple_in a) p.awake.live))
        (recent (time_of a) (at (five_tuple_in a) old.closed))

    pub record BehavesIn (p : Processes M a limit old new before after) : Type 0 where
      pub idle : EndAs p.idle.ended
      pub becomes :
          option_map b.view (at (five_tuple_in a) p.full.live) ≡ done_by b.becomes p
      pub over : views (five_tuple_in a) (outs_in p.arrives) ≡ as_list (done_by b.over p)

module _ {K : Type 0} {M : K → ℕ} where
  -- No limit is reached: there aren't too many connections, none ends for memory, and none is
  -- refused.
  pub record HasRoom {a : Arrival} {limit : ℕ} {old new : Table (TlsAnalysis K)}
      {before after : Option (List (Connection (TlsAnalysis K)))}
      (p : Processes M a limit old new before after) : Type 0 where
    pub few : length old.live ≤ MAX_CONNECTIONS
    pub none_refused : refused_in p.arrives ≡ []
    pub none_evicted : ended_in p.evicted.ended ≡ []

  -- No limit of the closed connections is reached: there aren't too many, and none is forgotten for
  -- memory.
  pub record RemembersClosed {a : Arrival} {limit : ℕ} {old new : Table (TlsAnalysis K)}
      {before after : Option (List (Connection (TlsAnalysis K)))}
      (p : Processes M a limit old new before after) : Type 0 where
    pub few_closed : length old.closed ≤ MAX_CONNECTIONS
    pub none_dropped : new.closed ≡ p.full.closed

-- A packet's content has room, and its connection behaves so. Reassembled datagrams are left out.
module _ {K : Type 0} (M : K → ℕ) (limit : ℕ) (old new : Table (TlsAnalysis K))
    (before after : Option (List (Connection (TlsAnalysis K)))) where
  abbrev pub RoomOf : (c : Content) → HandlesContent M c limit old new before after → Type 0
  RoomOf Nothing h = ⊤
  RoomOf (Whole a) h = HasRoom h × RemembersClosed h
  RoomOf (InFragments a n) h = ⊥

  abbrev pub BehavesOf : {V A : Type 0} → Behavior K V A → (c : Content)
      → HandlesContent M c limit old new before after → Type 0
  BehavesOf b Nothing h = ⊤
  BehavesOf b (Whole a) h = BehavesIn b h
  BehavesOf b (InFragments a n) h = ⊥

-- The arrivals of a content, and the time of the last one.
abbrev pub arrivals_of : Content → List Arrival
arrivals_of Nothing = []
arrivals_of (Whole a) = a ∷ []
arrivals_of (InFragments a n) = a ∷ []

abbrev pub time_behind : Content → ℕ → ℕ
time_behind Nothing time = time
time_behind (Whole a) time = time_of a
time_behind (InFragments a n) time = time_of a

module _ {K : Type 0} {M : K → ℕ} {limit : ℕ} {reader : ArrivalReader}
    {old : Table (TlsAnalysis K)} {before : Option (List (Connection (TlsAnalysis K)))} where
  -- The arrivals of these packets; and the time of the last one.
  abbrev pub arrivals_over : {packets : List Packet} {read : ArrivalReader}
      {new : Table (TlsAnalysis K)} {after : Option (List (Connection (TlsAnalysis K)))}
      → HandlesEach M limit reader old before packets read new after → List Arrival
  arrivals_over none_yet = []
  arrivals_over (one_more packets p read reads mid new between after h handles) =
      arrivals_over h ++ arrivals_of handles.content

  abbrev pub last_time : {packets : List Packet} {read : ArrivalReader}
      {new : Table (TlsAnalysis K)} {after : Option (List (Connection (TlsAnalysis K)))}
      → HandlesEach M limit reader old before packets read new after → ℕ
  last_time none_yet = 0
  last_time (one_more packets p read reads mid new between after h handles) =
      time_behind handles.content (last_time h)

  -- Times don't run back.
  abbrev pub InOrder : {packets : List Packet} {read : ArrivalReader}
      {new : Table (TlsAnalysis K)} {after : Option (List (Connection (TlsAnalysis K)))}
      → HandlesEach M limit reader old before packets read new after → Type 0
  InOrder none_yet = ⊤
  InOrder (one_more packets p read reads mid new between after h handles) =
      InOrder h × (last_time h ≤ time_behind handles.content (last_time h))

  abbrev pub HasRoomOver : {packets : List Packet} {read : ArrivalReader}
      {new : Table (TlsAnalysis K)} {after : Option (List (Connection (TlsAnalysis K)))}
      → HandlesEach M limit reader old before packets read new after → Type 0
  HasRoomOver none_yet = ⊤
  HasRoomOver (one_more packets p read reads mid new between after h handles) =
      HasRoomOver h × RoomOf M limit mid new between after handles.content handles.handles

  abbrev pub BehavesOver : {V A : Type 0} → Behavior K V A → {packets : List Packet}
      {read : ArrivalReader} {new : Table (TlsAnalysis K)}
      {after : Option (List (Connection (TlsAnalysis K)))}
      → HandlesEach M limit reader old before packets read new after → Type 0
  BehavesOver b none_yet = ⊤
  BehavesOver b (one_more packets p read reads mid new between after h handles) =
      BehavesOver b h
      × BehavesOf M limit mid new between after b handles.content handles.handles

module _ {K V A : Type 0} (b : Behavior K V A) where
  -- A run from an empty log on, whose times don't run back, which reaches no limit, and in which
  -- each connection behaves by itself.
  pub record IsPlain {M : K → ℕ} {limit : ℕ} {packets : List Packet} {reader : ArrivalReader}
      {old new : Table (TlsAnalysis K)} {before after : Option (List (Connection (TlsAnalysis K)))}
      (run : IsRun M limit packets reader old new before after) : Type 0 where
    pub empty : (old.live ≡ []) × (old.closed ≡ [])
    pub in_order : InOrder run.handles
    pub room : HasRoomOver run.handles
    pub behaves : BehavesOver b run.handles
    pub ends : EndAs b run.ends.ended

  pub record PlainRun (M : K → ℕ) : Type 0 where
    pub limit : ℕ
    pub packets : List Packet
    pub reader : ArrivalReader
    pub old : Table (TlsAnalysis K)
    pub new : Table (TlsAnalysis K)
    pub before : Option (List (Connection (TlsAnalysis K)))
    pub after : Option (List (Connection (TlsAnalysis K)))
    pub run : IsRun M limit packets reader old new before after
    pub plain : IsPlain run

  -- Its arrivals, as they are seen.
  abbrev pub arrivals_in : {M : K → ℕ} → PlainRun M → List A
  arrivals_in r = map b.seen (arrivals_over r.run.handles)

  -- Those of a five-tuple, and those of a part.
  abbrev pub own : FiveTuple → List A → List A
  own e xs = filter (λ x. is_five_tuple (b.five_tuple x) e) xs

  abbrev pub of_part : Part → List A → List A
  of_part part xs = filter (λ x. is_of_part part (b.five_tuple x)) xs

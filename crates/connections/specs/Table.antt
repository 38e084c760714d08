-- The table of connections by five-tuple, most recent packet first.
use Rattle.std.specs.Prelude.{◌≡◌, ℕ, ◌-◌, ◌<◌, ◌⊎◌, Bool, true, false, ◌&&◌, ◌||◌, not, is_some, if◌then◌else◌, Option, Some, None, IfSome, List, [], ◌∷◌, ◌++◌, length}
use Rattle.std.specs.Option.{option_and_then, option_map}
use Rattle.std.specs.Map.{lookup, remove_entry, set_value}
use Rattle.lru.specs.LruCache.{last_entry, promoted}
use Rattle.connections.specs.FiveTuple.{is_five_tuple}
use Rattle.connections.specs.Waiting.{five_tuple_of_kept, Kept}
use Rattle.connections.specs.declared.pending.PendingOutcome.{PendingOutcome}
use Rattle.connections.specs.declared.receiver.DropReason.{DropReason}
use Rattle.connections.specs.Datagram.{five_tuple_of_datagram}
use Rattle.connections.specs.Segment.{begins, begins_one, five_tuple_of}
use Rattle.connections.specs.Connection.{another_of, begun_by_datagram, dropped_from, dropping, is_closed, opening_of, pending_outcome, shows_damage, side_of, with_waiting, without_earlier, without_pending, without_syns, Accepts, AcceptsKept, Begins, IsAfter, IsAnew, IsBare, IsBegunBy, LeavesOut, LeavesOutKept, Shows, TakesDatagramIn}
use Rattle.connections.specs.declared.datagram.Datagram.{Datagram}
use Rattle.connections.specs.declared.five_tuple.FiveTuple.{FiveTuple}
use Rattle.connections.specs.declared.five_tuple.Protocol.{Protocol}
use Rattle.connections.specs.declared.five_tuple.Protocol.TheVariants.{Udp}
use Rattle.connections.specs.declared.segment.Header.{Header}
use Rattle.connections.specs.declared.segment.Segment.{Segment}
use Rattle.connections.specs.declared.connection.Connection.{Connection}
use Rattle.connections.specs.declared.receiver.DropReason.TheVariants as reason
use Rattle.connections.specs.declared.connection.Beginning.{Beginning}
use Rattle.connections.specs.declared.table.TheConstants.{IDLE_LIMIT, MAX_CONNECTIONS}

-- The open connections; the last times of those that both sides closed, whose later packets are
-- ignored; and the memory accounted for the open ones.
pub record Table (T : Type 0) : Type 0 where
  pub live : List (FiveTuple × Connection T)
  pub closed : List (FiveTuple × ℕ)
  pub held : ℕ

-- A connection with this last time was idle for longer than the limit, or there are too many.
abbrev pub IsOverAmong : ℕ → ℕ → ℕ → Type 0
IsOverAmong count time last = (IDLE_LIMIT < time - last) ⊎ (MAX_CONNECTIONS < count)

module _ {X : Type 0} where
  -- The value of a five-tuple, and the entries of all others.
  abbrev pub at : FiveTuple → List (FiveTuple × X) → Option X
  at e xs = lookup (is_five_tuple e) xs

  abbrev pub others : FiveTuple → List (FiveTuple × X) → List (FiveTuple × X)
  others e xs = remove_entry (is_five_tuple e) xs

  abbrev pub without_if : Bool → FiveTuple → List (FiveTuple × X) → List (FiveTuple × X)
  without_if taken e xs = if taken then others e xs else xs

  -- This value was the last entry, and was removed.
  pub record WasLast (xs ys : List (FiveTuple × X)) (x : X) : Type 0 where
    pub five_tuple : FiveTuple
    pub stood : xs ≡ ys ++ (five_tuple, x) ∷ []

  -- A connection with this last time is over, among these.
  abbrev pub IsOver : ℕ → List (FiveTuple × X) → ℕ → Type 0
  IsOver time xs last = IsOverAmong (length xs) time last

-- The last entries were removed, each because it was over.
pub data IsForgotten (time : ℕ) (xs : List (FiveTuple × ℕ)) : List (FiveTuple × ℕ) → Type 0 where
  none : IsForgotten time xs xs
  one : (ys zs : List (FiveTuple × ℕ)) (e : FiveTuple × ℕ) → IsForgotten time xs ys
      → ys ≡ zs ++ e ∷ [] → IsOver time ys e.1 → IsForgotten time xs zs

-- Nothing is left to remove: the last entry isn't over.
abbrev pub NoneToForget : ℕ → List (FiveTuple × ℕ) → Type 0
NoneToForget time xs = IfSome (last_entry xs) (λ e. ¬ IsOver time xs e.1)

module _ {T : Type 0} where
  -- A packet goes to the one connection of its five-tuple, which comes first then. The others stay.
  pub record IsPut (e : FiveTuple) (Takes : Option (Connection T) → Connection T → Type 0)
      (xs ys : List (FiveTuple × Connection T)) : Type 0 where
    pub its : Connection T
    pub takes : Takes (at e xs) its
    pub stands : ys ≡ (e, its) ∷ others e xs

  -- The connection accepts the segment. Without one, the segment begins one that accepts it.
  abbrev pub TakesSegment : Segment → Option (Connection T) → Connection T → Type 0
  TakesSegment s (Some c) its = Accepts s c its
  TakesSegment s None its = (c : Connection T) × IsBegunBy s c × Accepts s c its

  -- A connection that the segment begins comes first, and no longer counts as closed.
  pub record BeginsFirst (s : Segment) (e : FiveTuple) (old new : Table T) : Type 0 where
    pub its : Connection T
    pub takes : TakesSegment s None its
    pub stands : new ≡ record {
      live = (e, its) ∷ others e old.live;
      closed =
          others e old.closed;
      held = old.held;
    }

  -- A datagram is counted, and its time noted, in the exchange of its five-tuple, or in one that it
  -- begins.
  abbrev pub TakesDatagram : Datagram → Option (Connection T) → Connection T → Type 0
  TakesDatagram d (Some c) its = TakesDatagramIn d c its
  TakesDatagram d None its = its ≡ begun_by_datagram d its.attachment

  -- The caller's value of a five-tuple's connection is one that it began with, for this protocol.
  abbrev pub HasBegun : (Protocol → T → Type 0) → Protocol → FiveTuple
      → List (FiveTuple × Connection T) → Type 0
  HasBegun IsBegun p e xs = IfSome (at e xs) (λ c. IsBegun p c.attachment)

  -- A datagram's exchange has such a value, if the datagram begins it, or restarts it because
  -- everything before was damaged.
  abbrev pub HasBegunBy : (Protocol → T → Type 0) → Datagram → Option (Connection T)
      → List (FiveTuple × Connection T) → Type 0
  HasBegunBy IsBegun d None xs = HasBegun IsBegun Udp (five_tuple_of_datagram d) xs
  HasBegunBy IsBegun d (Some c) xs =
      shows_damage (side_of c d.source) d.checksum c ≡ true
      → HasBegun IsBegun c.protocol (five_tuple_of_datagram d) xs

  -- Another connection has this five-tuple, in the same position. All others stay.
  abbrev pub with_other : FiveTuple → Connection T → Table T → Table T
  with_other e c t = record t { live = set_value (is_five_tuple e) t.live c }

  -- The connection of this five-tuple becomes the most recently used.
  abbrev pub promoting : FiveTuple → Table T → Table T
  promoting e t = record t { live = promoted (is_five_tuple e) t.live }

  -- The connection of this five-tuple becomes another, in the same position. Without one nothing
  -- changes.
  abbrev pub changing_at : FiveTuple → (Connection T → Connection T) → Option (Connection T)
      → Table T → Table T
  changing_at e f None t = t
  changing_at e f (Some c) t = with_other e (f c) t

  abbrev pub changing : FiveTuple → (Connection T → Connection T) → Table T → Table T
  changing e f t = changing_at e f (at e t.live) t

  -- A segment that its receiver drops is counted or kept; one that waits becomes pending or is
  -- counted; and one arrives that may acknowledge a pending one.
  abbrev pub with_dropped_segment : DropReason → Segment → Table T → Table T
  with_dropped_segment r s t = changing (five_tuple_of s) (dropping r s) t

  abbrev pub without_earlier_syn : DropReason → Segment → Table T → Table T
  without_earlier_syn r s t = changing (five_tuple_of s) (without_earlier r s) t

  abbrev pub with_waiting_segment : DropReason → Segment → Table T → Table T
  with_waiting_segment r s t = changing (five_tuple_of s) (with_waiting r s) t

  abbrev pub without_pending_segment : Segment → Table T → Table T
  without_pending_segment s t = changing (five_tuple_of s) (without_pending s) t

  abbrev pub pending_outcome_in : Segment → Table T → Option PendingOutcome
  pending_outcome_in s t = option_and_then (pending_outcome s) (at (five_tuple_of s) t.live)

  -- A pending segment is added to its connection's stream. The connection comes first then.
  abbrev pub ComesFirst : FiveTuple → (Connection T → Connection T → Type 0)
      → Option (Connection T) → Table T → Table T → Type 0
  ComesFirst e R None old new = new ≡ old
  ComesFirst e R (Some c) old new = (c' : Connection T) × R c c'
      × (new ≡ record old { live = (e, c') ∷ others e old.live })

  abbrev pub AcceptsPending : Kept → Table T → Table T → Type 0
  AcceptsPending k old new = ComesFirst (five_tuple_of_kept k) (AcceptsKept k)
      (at (five_tuple_of_kept k) old.live) old new

  abbrev pub LeavesOutPending : Kept → Table T → Table T → Type 0
  LeavesOutPending k old new = ComesFirst (five_tuple_of_kept k) (LeavesOutKept k)
      (at (five_tuple_of_kept k) old.live) old new

  -- A datagram with a wrong checksum is counted in the exchange of its five-tuple.
  abbrev pub DropsDatagramOf : Datagram → Option (Connection T) → Table T → Table T → Type 0
  DropsDatagramOf d None old new = new ≡ old
  DropsDatagramOf d (Some c) old new =
      new ≡ with_other (five_tuple_of_datagram d)
      (dropped_from (side_of c d.source) reason.Checksum c) old

  abbrev pub DropsDatagram : Datagram → Bool → Table T → Table T → Type 0
  DropsDatagram d false old new = new ≡ old
  DropsDatagram d true old new = DropsDatagramOf d (at (five_tuple_of_datagram d) old.live) old new

  -- The segment's five-tuple has an open connection, or the segment begins one. After a closed one
  -- only a SYN does.
  abbrev pub belongs : Segment → Table T → Bool
  belongs s t =
      is_some (at (five_tuple_of s) t.live)
      || (begins_one s && (begins s || not (is_some (at (five_tuple_of s) t.closed))))

  abbrev pub closed_behind : Bool → Segment → Table T → List (FiveTuple × ℕ)
  closed_behind begun s t =
      without_if (begun && not (is_some (at (five_tuple_of s) t.live))) (five_tuple_of s) t.closed

  abbrev pub Puts : Bool → Segment → Table T → Table T → Type 0
  Puts true s old new = IsPut (five_tuple_of s) (TakesSegment s) old.live new.live
  Puts false s old new = new ≡ old

  -- The longest-idle connection isn't over.
  abbrev pub NoneIsOver : ℕ → List (FiveTuple × Connection T) → Type 0
  NoneIsOver time xs = IfSome (last_entry xs) (λ e. ¬ IsOver time xs e.1.last_time)

  -- Without memory, an existing connection drops the segment's bytes, and no connection begins.
  abbrev pub LeavesOutAt : Segment → Option (Connection T) → List (FiveTuple × Connection T)
      → List (FiveTuple × Connection T) → Type 0
  LeavesOutAt s None xs ys = ys ≡ xs
  LeavesOutAt s (Some c) xs ys = (c' : Connection T) × LeavesOut s c c'
      × (ys ≡ (five_tuple_of s, c') ∷ others (five_tuple_of s) xs)

  -- Both sides closed the connection of this five-tuple.
  abbrev pub ended : FiveTuple → Table T → Option (Connection T)
  ended e t = option_and_then (λ c. if is_closed c then Some c else None) (at e t.live)

  -- The opening of another connection between a segment's ends that the segment shows.
  abbrev pub another_in : Segment → Option (Connection T) → Option (Header × Option Header)
  another_in s o = option_and_then (another_of s) o

  -- Another connection comes first, which begins with the pending SYNs that this segment shows. The
  -- one before is removed, without the SYNs that were kept.
  pub record Replaces (s : Segment) (old new : Table T) (c : Connection T) : Type 0 where
    pub beginning : Beginning
    pub its : Connection T
    pub shows : Shows s beginning
    pub waited : another_in s (at (five_tuple_of s) old.live) ≡ Some (opening_of beginning)
    pub bare : IsBare beginning
    pub begins : Begins beginning its
    pub was : Some c ≡ option_map without_syns (at (five_tuple_of s) old.live)
    pub stands : new ≡ record old {
      live = (five_tuple_of s, its) ∷ others (five_tuple_of s) old.live;
      held =
          old.held - c.weight;
    }

  abbrev pub Replaced : Segment → Table T → Table T → Option (Connection T) → Type 0
  Replaced s old new None =
      (new ≡ old) × (another_in s (at (five_tuple_of s) old.live) ≡ None)
  Replaced s old new (Some c) = Replaces s old new c

  -- The connection of this five-tuple restarts.
  abbrev pub IsAnewAt : ℕ → FiveTuple → Option (Connection T) → Table T → Table T → Type 0
  IsAnewAt time e None old new = new ≡ old
  IsAnewAt time e (Some c) old new = (c' : Connection T) × IsAnew time c c'
      × (new ≡ with_other e c' old)

  abbrev pub Restarts : Segment → Table T → Table T → Type 0
  Restarts s old new = IsAnewAt s.time (five_tuple_of s) (at (five_tuple_of s) old.live) old new

  -- Another exchange replaces the one of a datagram's five-tuple.
  abbrev pub BeginsAfter : Datagram → Option (Connection T) → Table T → Table T → Type 0
  BeginsAfter d None old new = new ≡ old
  BeginsAfter d (Some c) old new = (c' : Connection T) × IsAfter d c c'
      × (new ≡ record (with_other (five_tuple_of_datagram d) c' old) { held = old.held - c.weight })

  -- A connection that both sides closed is removed, and remembered as closed.
  abbrev pub weight_of : Option (Connection T) → ℕ
  weight_of None = 0
  weight_of (Some c) = c.weight

  abbrev pub without_ended : FiveTuple → ℕ → Table T → Table T
  without_ended e time t = if is_some (ended e t)
      then record {
        live = others e t.live;
        closed = (e, time) ∷ others e t.closed;
        held =
            t.held - weight_of (at e t.live);
      } else t

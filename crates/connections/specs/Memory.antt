-- The memory accounted for the connections of a table, in bytes.
use Rattle.std.specs.Prelude.{◌≡◌, ℕ, ◌+◌, ◌-◌, ◌*◌, ◌/◌, ◌≤◌, ◌<◌, ◌^◌, max, Bool, nat_lt, ◌||◌, Option, Some, None, List, [], ◌∷◌, length, take}
use Rattle.connections.specs.Connection.{held_by}
use Rattle.connections.specs.Stream.{held_in}
use Rattle.connections.specs.Traffic.{plus, times}
use Rattle.connections.specs.Waiting.{with_bytes_of}
use Rattle.connections.specs.declared.connection.TheConstants.{CONNECTION_COST}
use Rattle.connections.specs.declared.memory.TheConstants.{BYTE_COST, PACKET_COST, STREAM_COST}
use Rattle.connections.specs.declared.pending.TheConstants.{PENDING_COST, PENDING_ROOM}
use Rattle.connections.specs.declared.traffic.Traffic.{Traffic}
use Rattle.connections.specs.Table.{with_other, Table, WasLast}
use Rattle.connections.specs.declared.connection.Connection.{Connection}
use Rattle.connections.specs.declared.five_tuple.FiveTuple.{FiveTuple}
use Rattle.connections.specs.declared.table.TheConstants.{CLOSED_COST, CLOSED_SHARE}

-- The parts of a memory limit for closed and for open connections.
abbrev pub closed_part : ℕ → ℕ
closed_part limit = limit / CLOSED_SHARE

abbrev pub open_part : ℕ → ℕ
open_part limit = limit - closed_part limit

-- How many closed connections fit.
abbrev pub closed_count : ℕ → ℕ
closed_count limit = closed_part limit / CLOSED_COST

-- Of the closed connections, latest first, as many are remembered as fit.
abbrev pub FitsClosed : ℕ → List (FiveTuple × ℕ) → List (FiveTuple × ℕ) → Type 0
FitsClosed limit xs ys = ys ≡ take (closed_count limit) xs

-- An upper bound for the memory of a stream, by what was captured of it.
abbrev pub most_of : Traffic → ℕ
most_of sent =
    plus (plus (times sent.bytes BYTE_COST) (times sent.packets PACKET_COST)) STREAM_COST

module _ {T : Type 0} where
  -- The memory accounted for all, in bytes.
  abbrev pub total : List (FiveTuple × Connection T) → ℕ
  total [] = 0
  total (e ∷ xs) = e.1.weight + total xs

  -- The table's count is the memory accounted for all open connections.
  abbrev pub IsAccounted : Table T → Type 0
  IsAccounted t = t.held ≡ total t.live

  -- The accounted memory exceeds a limit.
  abbrev pub is_over_limit : ℕ → Table T → Bool
  is_over_limit limit t = nat_lt (open_part limit) t.held
      || nat_lt (closed_count limit) (length t.closed)

  -- The most memory that is accounted for a connection whose attachment takes at most M, by what
  -- was captured of both sides and what is pending.
  abbrev pub most_weight : (T → ℕ) → Connection T → ℕ
  most_weight M c =
      max (most_of c.originator_sent) (held_in c.from_originator.reading)
      + max (most_of c.responder_sent) (held_in c.from_responder.reading)
      + (with_bytes_of c.waiting 0 + PENDING_ROOM * PENDING_COST)
      + M c.attachment + CONNECTION_COST

  -- A number of bytes bounds the memory that a connection takes: it is at least those that its
  -- streams store, as long as no machine has more, and at most what was captured of it can take.
  abbrev pub IsWeight : (T → ℕ) → Connection T → ℕ → Type 0
  IsWeight M c n = (held_by c < 2 ^ 64 → held_by c ≤ n) × (n ≤ most_weight M c)

  -- Such a number, if another one is accounted for the connection. If none is given, the accounted
  -- one is one.
  abbrev pub IsChangedWeight : (T → ℕ) → Connection T → Option ℕ → Type 0
  IsChangedWeight M c None = IsWeight M c c.weight
  IsChangedWeight M c (Some n) = (n ≡ c.weight → ⊥) × IsWeight M c n

  -- The connection's accounted memory is at least the bytes that its streams store, as long as no
  -- machine has more, and at most what was captured of it can take. Everything else stays.
  pub record IsSettledAs (M : T → ℕ) (e : FiveTuple) (c w : Connection T)
      (old new : Table T) : Type 0 where
    pub same : w ≡ record c { weight = w.weight }
    pub enough : old.held - c.weight + held_by w < 2 ^ 63 → held_by w ≤ w.weight
    pub within : w.weight ≤ most_weight M w
    pub stands : new ≡ record (with_other e w old) { held = (old.held - c.weight) + w.weight }

  abbrev pub IsSettled : (T → ℕ) → FiveTuple → Option (Connection T) → Table T → Table T → Type 0
  IsSettled M e None old new = new ≡ old
  IsSettled M e (Some c) old new = (w : Connection T) × IsSettledAs M e c w old new

  -- The longest-idle connection is removed, and its memory no longer accounted. All others stay.
  pub record IsTakenOut (old new : Table T) (c : Connection T) : Type 0 where
    pub last : WasLast old.live new.live c
    pub held : new.held ≡ old.held - c.weight

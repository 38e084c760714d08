-- The table after the borrowed connection is given back.
use Rattle.std.specs.Prelude.{List, Option}
use Rattle.lru.specs.LruCache.{promoted}
use Rattle.std.specs.Map.{set_value}
use Rattle.std.specs.Borrow.{Fml, RattleType, MutBor, Lends, LendsIf}
use Rattle.connections.specs.ByFiveTuple.{keyed_table, KeyedTable}
use Rattle.connections.specs.FiveTuple.{is_five_tuple}
use Rattle.connections.specs.Table.{Table}
use Rattle.connections.specs.declared.five_tuple.FiveTuple.{FiveTuple}
use Rattle.connections.specs.declared.connection.Connection.{Connection}
use Rattle.connections.specs.contracts.boxed.Boxed as boxed
use Rattle.connections.specs.contracts.by_five_tuple.ByFiveTuple as by_five_tuple
use Rattle.connections.specs.contracts.connection.Connection as connection
use Rattle.connections.specs.contracts.table.Connections as table

-- The value written for this five-tuple is among these entries. Without the five-tuple nothing
-- changes.
abbrev pub lends_value : (V : RattleType) → MutBor (KeyedTable V.Denot) → FiveTuple
    → List (FiveTuple × V.Denot) → Option (MutBor V.Denot) → Fml
lends_value V t e xs r =
    LendsIf (by_five_tuple.the_row V) V t r
    (λ w. keyed_table t.now.keys (set_value (is_five_tuple e) xs w) t.now.cap) t.now

-- The connection written for this five-tuple is in the table, and everything else stays. Without
-- the five-tuple nothing changes.
abbrev pub lends_connection : (T : RattleType) → MutBor (Table T.Denot) → FiveTuple
    → Option (MutBor (Connection T.Denot)) → Fml
lends_connection T t e r = LendsIf (table.the_row T) (connection.the_row T) t r
    (λ w. record t.now { live = set_value (is_five_tuple e) t.now.live w }) t.now

-- This five-tuple has another connection, which comes first.
abbrev pub with_first : {T : Type 0} → FiveTuple → Connection T → Table T → Table T
with_first e c t =
    record t { live = set_value (is_five_tuple e) (promoted (is_five_tuple e) t.live) c }

-- The connection written for this five-tuple is in the table and comes first. Without the
-- five-tuple nothing changes.
abbrev pub lends_first : (T : RattleType) → MutBor (Table T.Denot) → FiveTuple
    → Option (MutBor (Connection T.Denot)) → Fml
lends_first T t e r =
    LendsIf (table.the_row T) (connection.the_row T) t r (λ w. with_first e w t.now) t.now

-- The connection written is the one in the box.
abbrev pub lends_all : (T : RattleType) → MutBor (Connection T.Denot)
    → MutBor (Connection T.Denot) → Fml
lends_all T b r = Lends (boxed.the_row T) (connection.the_row T) b r (λ w. w)

-- Which arrivals a receiver doesn't take, and what they change.
use Rattle.std.specs.Prelude.{◌≡◌, ⊤, Bool, true, false, ◌&&◌, not, Option, Some, None}
use Rattle.arrivals.specs.declared.arrival.Arrival.{Arrival}
use Rattle.arrivals.specs.declared.arrival.Arrival.TheVariants as arrival
use Rattle.connections.specs.Connection.{is_kept}
use Rattle.connections.specs.Segment.{is_refused}
use Rattle.connections.specs.Table.{Table, belongs}
use Rattle.connections.specs.declared.connection.Connection.{Connection}
use Rattle.connections.specs.declared.connection.Verdict.{Verdict}
use Rattle.log_connections.specs.declared.analysis.TlsAnalysis.{TlsAnalysis}
use Rattle.log_connections.specs.declared.exchanges.Delivery.{Delivery}
use Rattle.log_connections.specs.declared.exchanges.Delivery.TheVariants as delivery
use Rattle.log_connections.specs.Log.{Takes, verdict_in}

-- A segment that its receiver drops, one that is pending, or one that belongs to no connection.
abbrev pub is_left_out : Option Verdict → Bool → Bool
is_left_out None belongs = not belongs
is_left_out (Some v) belongs =
    not v.shows_damage && (not v.begins_another && not (is_kept v.judgement))

-- A datagram with a wrong checksum.
abbrev pub is_undelivered : Delivery → Bool → Bool
is_undelivered delivery.Received refused = false
is_undelivered delivery.Damaged refused = true
is_undelivered delivery.BeginsAnother refused = false
is_undelivered delivery.NoneOpen refused = refused

module _ {T : Type 0} where
  -- A connection's pending segments, counts of dropped packets and accounted memory may change:
  -- nothing else does, neither its streams nor its attachment.
  abbrev pub ChangesCounts : Connection T → Connection T → Type 0
  ChangesCounts c d = d ≡ record c {
    waiting = d.waiting;
    originator_dropped = d.originator_dropped;
    responder_dropped = d.responder_dropped;
    weight = d.weight;
  }

  abbrev pub ChangesCountsAt : Option (Connection T) → Option (Connection T) → Type 0
  ChangesCountsAt None None = ⊤
  ChangesCountsAt (Some c) (Some d) = ChangesCounts c d
  ChangesCountsAt c d = ⊥

module _ {K : Type 0} where
  abbrev pub is_dropped : (a : Arrival) (old mid : Table (TlsAnalysis K))
      (over : Option (Connection (TlsAnalysis K))) → Takes a old mid over → Bool
  is_dropped (arrival.Segment s) old mid over takes =
      is_left_out (verdict_in s old) (belongs s old)
  is_dropped (arrival.Datagram d) old mid over takes =
      is_undelivered takes.way (is_refused d.checksum)

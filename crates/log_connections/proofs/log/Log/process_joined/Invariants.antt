use Rattle.std.specs.Prelude.{◌≡◌, ◌+◌, ◌-◌, true, is_some}
use Rattle.connections.specs.Memory.{IsAccounted}
use Rattle.packets.specs.Section.{view_packet}
use Rattle.tunnels.specs.declared.tunnel.TheConstants.{MAX_TUNNELS}
use Rattle.arrivals.specs.declared.reader.ArrivalReader.{ArrivalReader}
use Rattle.log_connections.specs.Reading.{Content, HoldsJoined, HoldsWhole}
use Rattle.log_connections.proofs.log.Log.process_joined.Given as goal

-- No arrival was found so far. What is found from here on is all.
abbrev pub invariant-inside : goal.invariant-inside
invariant-inside g l = record {
  finds : (new : ArrivalReader) (content : Content)
      → HoldsJoined (view_packet l.packet) ((MAX_TUNNELS + 1) - l.count) l.self.arrivals l.whole new
      content
      → HoldsWhole (view_packet l.packet) l.initial.self.arrivals l.initial.whole new content;
  needs : is_some l.whole ≡ true → is_some l.initial.whole ≡ true;
  connections : l.self.connections ≡ l.initial.self.connections;
  accounted : IsAccounted l.initial.self.connections → IsAccounted l.self.connections;
  memory : l.self.memory ≡ l.initial.self.memory;
  kept : l.self.kept ≡ l.initial.self.kept;
  received : g.S.Sink.received l.sink ≡ g.S.Sink.received l.initial.sink;
  lent : g.S.Sink.lent l.sink ≡ g.S.Sink.lent l.initial.sink;
  sound : g.S.Sink.is_sound l.initial.sink ≡ true → g.S.Sink.is_sound l.sink ≡ true;
}

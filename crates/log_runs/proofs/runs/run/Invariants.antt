use Rattle.std.specs.Prelude.{◌≡◌, map, take, true}
use Rattle.packets.specs.Section.{view_packet}
use Rattle.log_runs.specs.Runs.{HandlesEach}
use Rattle.log_runs.proofs.runs.run.Given as goal

-- The packets so far were handled, and the sink is sound.
abbrev pub invariant-loop-packet : goal.invariant-loop-packet
invariant-loop-packet g l = record {
  handles : HandlesEach g.K.PieceCollector.most_bytes l.initial.log.memory
      l.initial.log.arrivals l.initial.log.connections (g.S.Sink.received l.initial.sink)
      (map view_packet (take l.packet-index l.packets)) l.log.arrivals l.log.connections
      (g.S.Sink.received l.sink);
  memory : l.log.memory ≡ l.initial.log.memory;
  sound : g.S.Sink.is_sound l.initial.sink ≡ true → g.S.Sink.is_sound l.sink ≡ true;
}

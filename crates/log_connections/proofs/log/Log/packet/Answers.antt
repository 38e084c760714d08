use Rattle.std.proofs.Common.{refl}
use Rattle.std.proofs.lemmas.Result.{IfErr-weaker, IfOk-weaker}
use Rattle.packets.specs.Section.{view_packet}
use Rattle.log_connections.specs.Packet.{at_content, passes_on}
use Rattle.log_connections.specs.Reading.{Whole, one}
use Rattle.log_connections.proofs.PacketLemmas.{handled_by, holds_behind, needs_behind, stopped_by}
use Rattle.log_connections.proofs.log.Log.packet.Goals as goal

pub returns-in-Some-clause-handled : goal.returns-in-Some-clause-handled
returns-in-Some-clause-handled g c =
    IfOk-weaker c.process.result _ _
    (λ _ processes. (
      record {
        content = Whole c.in-Some.arrival;
        read = c.plain_arrival.new.self;
        finds = one c.in-Some.arrival c.in-Some.ensures.reads refl;
        handles = processes.0;
        is_read = (c.process.ensures.reader, processes.1);
      },
      processes.2,
    )) c.process.ensures.processed

pub returns-in-Some-clause-stopped : goal.returns-in-Some-clause-stopped
returns-in-Some-clause-stopped g c =
    IfErr-weaker c.process.result _ _
    (λ error stops. (
      at_content (Whole c.in-Some.arrival) c.plain_arrival.new.self
          (one c.in-Some.arrival c.in-Some.ensures.reads refl) stops.0,
      stops.1,
    ))
    c.process.ensures.stopped

pub returns-clause-handled : goal.returns-clause-handled
returns-clause-handled g c =
    IfOk-weaker c.other_packet.result _ _
    (λ _ handles. handled_by _ _ (passes_on c.args.self.now.kept) _ _ _ _ _ _ _ _ _
    (λ read content h. holds_behind (view_packet c.args.packet) c.args.self.now.arrivals
    c.plain_arrival.new.self read content c.in_default.ensures.none h) handles)
    c.other_packet.ensures.handled

pub returns-clause-stopped : goal.returns-clause-stopped
returns-clause-stopped g c =
    IfErr-weaker c.other_packet.result _ _
    (λ error stops. stopped_by _ _ (passes_on c.args.self.now.kept) _ _ _ _ error _ _ _ _ _ _
    (λ read content h. holds_behind (view_packet c.args.packet) c.args.self.now.arrivals
    c.plain_arrival.new.self read content c.in_default.ensures.none h)
    (needs_behind (view_packet c.args.packet) c.args.self.now.arrivals c.plain_arrival.new.self
    c.in_default.ensures.none) stops)
    c.other_packet.ensures.stopped

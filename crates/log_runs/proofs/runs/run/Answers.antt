use Rattle.std.proofs.Common.{refl, ◌∙◌, map}
use Rattle.std.specs.Prelude.{IfErr}
use Rattle.packets.specs.Section.{view_packet}
use Rattle.std.proofs.lemmas.List.{take_all, take_more}
use Rattle.log_runs.proofs.RunLemmas.{around, each_next, error_kept, runs_to, sound_kept, stops_at, stops_last}
use Rattle.log_runs.specs.Runs.{StopsRun, none_yet}
use Rattle.log_runs.proofs.runs.run.Goals as goal

pub loop-packet-init : goal.loop-packet-init
loop-packet-init g c = record { handles = none_yet; memory = refl; sound = λ h. h }

pub loop-packet-preserved : goal.loop-packet-preserved
loop-packet-preserved g c = record {
  handles =
      each_next g.K.PieceCollector.most_bytes _ _ _ _ _ _ _ _ _ _ _ _ _ _
      c.loop-packet.invariant.handles c.in_ok-packet.ensures.handled.0
      c.loop-packet.invariant.memory
      (take_more c.args.packets.now c.loop-packet.packet-index _ c.loop-packet-test.true);
  memory = c.in_ok-packet.ensures.memory ∙ c.loop-packet.invariant.memory;
  sound = λ h. c.in_ok-packet.ensures.sound (c.loop-packet.invariant.sound h);
}

pub returns-in_err-packet-clause-stopped : goal.returns-in_err-packet-clause-stopped
returns-in_err-packet-clause-stopped g c =
    error_kept c.from_residual.result c.in_err-packet.field-0.0 c.from_residual.ensures.1
    (λ r. IfErr r (λ error. StopsRun g.K.PieceCollector.most_bytes c.args.log.now.memory
    (map view_packet c.args.packets.now) c.args.log.now.arrivals error
    c.args.log.now.connections c.packet.new.self.connections (g.S.Sink.received c.args.sink.now)
    (g.S.Sink.received c.packet.new.sink)))
    (stops_at g.K.PieceCollector.most_bytes _ _ _ _ _ _ _ _ _ _ _ c.args.packets.now _ _ _
    c.loop-packet.invariant.handles
    (around c.args.packets.now c.loop-packet.packet-index _
    (take_more c.args.packets.now c.loop-packet.packet-index _ c.loop-packet-test.true))
    c.loop-packet.invariant.memory c.in_err-packet.ensures.stopped.0)

pub returns-in_err-packet-clause-sound : goal.returns-in_err-packet-clause-sound
returns-in_err-packet-clause-sound g c =
    sound_kept c.from_residual.result c.in_err-packet.field-0.0
    (g.S.Sink.is_sound c.args.sink.now) _ _ c.from_residual.ensures.1
    c.loop-packet.invariant.sound c.in_err-packet.ensures.sound

pub returns-clause-stopped : goal.returns-clause-stopped
returns-clause-stopped g c =
    stops_last g.K.PieceCollector.most_bytes _ _ _ _ _ _ _ _ _ _ c.finish.result
    (rw (take_all c.loop-packet.packet-index c.args.packets.now c.loop-packet-test.false) at
    c.loop-packet.invariant.handles) c.finish.ensures.stopped c.finish.ensures.failed

pub returns-clause-run : goal.returns-clause-run
returns-clause-run g c =
    runs_to g.K.PieceCollector.most_bytes _ _ _ _ _ _ _ _ _ _ c.finish.result _
    (rw (take_all c.loop-packet.packet-index c.args.packets.now c.loop-packet-test.false) at
    c.loop-packet.invariant.handles) c.finish.ensures.ended c.finish.ensures.none

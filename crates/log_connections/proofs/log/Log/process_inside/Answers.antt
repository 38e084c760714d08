use Rattle.std.proofs.Common.{◌≡◌, ◌∙◌, ap, refl, subst, sym}
use Rattle.log_connections.specs.Log.{uncounted}
use Rattle.log_connections.specs.Packet.{CountsProcessed, at_content, at_reader, noted_if}
use Rattle.log_connections.specs.Reading.{InFragments}
use Rattle.log_connections.proofs.PacketLemmas.{given}
use Rattle.log_connections.proofs.SinkLemmas.{adds_none}
use Rattle.log_connections.proofs.log.Log.process_inside.Goals as goal

pub returns-in_err-arrival-clause-stopped : goal.returns-in_err-arrival-clause-stopped
returns-in_err-arrival-clause-stopped g c =
    given c.from_residual.result _ _ c.from_residual.ensures.1 (
      at_reader tt tt refl (adds_none (g.S.Sink.received c.args.sink.now)),
      adds_none (g.S.Sink.lent c.args.sink.now),
    )

pub returns-in_err-process-clause-stopped : goal.returns-in_err-process-clause-stopped
returns-in_err-process-clause-stopped g c =
    let stops =
    rw (
      c.note_disagreeing-is_noted.ensures.noted,
      c.note_disagreeing-is_noted.ensures.memory,
      c.note_disagreeing-is_noted.ensures.kept,
    ) at c.in_err-process.ensures.stopped in
    given c.from_residual-in_err-process.result c.in_err-process.field-0.0 _
    c.from_residual-in_err-process.ensures.1 (
      at_content (InFragments c.in-Some.arrival c.disagreeing-count.result) c.arrival_in.new.self (
        c.in-Some.arrival,
        rw c.in-Some.is at c.in_ok-arrival.ensures.reads,
        ap (InFragments c.in-Some.arrival) c.disagreeing-count.ensures,
      ) stops.0,
      stops.1,
    )

pub returns-clause-processed : goal.returns-clause-processed
returns-clause-processed g c =
    let processed =
    rw (
      c.note_disagreeing-is_noted.ensures.noted,
      c.note_disagreeing-is_noted.ensures.memory,
      c.note_disagreeing-is_noted.ensures.kept,
      c.note_disagreeing-is_noted.ensures.arrivals,
    )
    at c.in_ok-process.ensures.processed in (
      record {
        content = InFragments c.in-Some.arrival c.disagreeing-count.result;
        read = c.arrival_in.new.self;
        finds = (
          c.in-Some.arrival,
          rw c.in-Some.is at c.in_ok-arrival.ensures.reads,
          ap (InFragments c.in-Some.arrival) c.disagreeing-count.ensures,
        );
        handles = record {
          processed = c.process.new.self.connections;
          processes = processed.0;
          noted = subst
              (λ b. c.note_unless.new.self.connections ≡ noted_if b c.in-Some.arrival
              c.disagreeing-count.result c.process.new.self.connections)
              c.note_disagreeing-is_noted.ensures.is_open c.note_unless.ensures.noted;
        };
        is_read = (
          ap uncounted c.note_unless.ensures.arrivals ∙ c.process.ensures.reader
              ∙ ap uncounted c.note_disagreeing-is_noted.ensures.arrivals,
          subst (λ r. CountsProcessed processed.0 c.arrival_in.new.self.counts r.counts)
              (sym c.note_unless.ensures.arrivals) processed.1,
        );
      },
      processed.2,
    )

pub returns-in_err-process-clause-accounted : goal.returns-in_err-process-clause-accounted
returns-in_err-process-clause-accounted g c =
    λ h. c.process.ensures.accounted (c.note_disagreeing-is_noted.ensures.accounted h)

pub returns-clause-accounted : goal.returns-clause-accounted
returns-clause-accounted g c =
    λ h. c.note_unless.ensures.accounted
    (c.process.ensures.accounted (c.note_disagreeing-is_noted.ensures.accounted h))

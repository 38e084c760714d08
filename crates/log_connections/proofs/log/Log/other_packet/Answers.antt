use Rattle.std.proofs.Common.{inl, inr, refl, sym, ◌∙◌}
use Rattle.std.proofs.lemmas.Result.{IfErr-weaker, IfOk-weaker}
use Rattle.packets.specs.Section.{view_packet}
use Rattle.log_connections.specs.Packet.{at_content, at_reader, passes_on}
use Rattle.log_connections.specs.Reading.{Whole, joined, one}
use Rattle.log_connections.proofs.PacketLemmas.{given, handled_by, handled_none, none_held, stopped_by}
use Rattle.log_connections.proofs.SinkLemmas.{adds_none}
use Rattle.log_connections.proofs.log.Log.other_packet.Goals as goal

pub returns-in_err-arrival-clause-stopped : goal.returns-in_err-arrival-clause-stopped
returns-in_err-arrival-clause-stopped g c =
    given c.from_residual.result _ _ c.from_residual.ensures.1 (
      at_reader tt (inl c.in_err-arrival.ensures.fails) refl
          (adds_none (g.S.Sink.received c.args.sink.now)),
      adds_none (g.S.Sink.lent c.args.sink.now),
    )

pub returns-in-Some-clause-handled : goal.returns-in-Some-clause-handled
returns-in-Some-clause-handled g c =
    IfOk-weaker c.process.result _ _
    (λ _ processes. (
      record {
        content = Whole c.in-Some.arrival;
        read = c.arrival.new.self;
        finds = one c.in-Some.arrival (rw c.in-Some.is at c.in_ok-arrival.ensures.reads) refl;
        handles = processes.0;
        is_read = (c.process.ensures.reader, processes.1);
      },
      processes.2,
    )) c.process.ensures.processed

pub returns-in-Some-clause-stopped : goal.returns-in-Some-clause-stopped
returns-in-Some-clause-stopped g c =
    IfErr-weaker c.process.result _ _
    (λ error stops. (
      at_content (Whole c.in-Some.arrival) c.arrival.new.self
          (one c.in-Some.arrival (rw c.in-Some.is at c.in_ok-arrival.ensures.reads) refl) stops.0,
      stops.1,
    ))
    c.process.ensures.stopped

pub returns-in-None-clause-handled : goal.returns-in-None-clause-handled
returns-in-None-clause-handled g c =
    IfOk-weaker c.join_fragments.result _ _
    (λ _ handles. handled_by _ _ (passes_on c.args.self.now.kept) _ _ _ _ _ _ _ _ _
    (λ read content h. joined c.arrival.new.self
    (rw c.in-None.is at c.in_ok-arrival.ensures.reads) h) handles)
    c.join_fragments.ensures.handled

pub returns-in-None-clause-stopped : goal.returns-in-None-clause-stopped
returns-in-None-clause-stopped g c =
    IfErr-weaker c.join_fragments.result _ _
    (λ error stops. stopped_by _ _ (passes_on c.args.self.now.kept) _ _ _ _ error _ _ _ _ _ _
    (λ read content h. joined c.arrival.new.self
    (rw c.in-None.is at c.in_ok-arrival.ensures.reads) h) (λ is. inr is) stops)
    c.join_fragments.ensures.stopped

pub returns-in-None-2-clause-handled : goal.returns-in-None-2-clause-handled
returns-in-None-2-clause-handled g c =
    handled_none _ _ (passes_on c.args.self.now.kept) _ _ _ _ _ _ _ _
    (none_held (view_packet c.args.packet) c.args.self.now.arrivals c.arrival.new.self
    (rw c.in-None-2.is at c.in_ok-arrival.ensures.reads)
    (sym c.has_fragment.ensures ∙ c.if-has_fragment.false)) refl refl refl

use Rattle.std.proofs.Common.{refl}
use Rattle.std.proofs.lemmas.Result.{IfErr-weaker, IfOk-weaker}
use Rattle.arrivals.specs.Fragments.{fragment_in}
use Rattle.packets.specs.Section.{view_packet}
use Rattle.log_connections.specs.Packet.{at_reader, passes_on}
use Rattle.log_connections.proofs.PacketLemmas.{given, handled_by, joins_found, leaves_found, stopped_by}
use Rattle.log_connections.proofs.SinkLemmas.{adds_none}
use Rattle.log_connections.proofs.log.Log.join_fragments.Goals as goal

pub returns-clause-handled : goal.returns-clause-handled
returns-clause-handled g c =
    IfOk-weaker c.process_joined.result _ _
    (λ _ handles. handled_by _ _ (passes_on c.args.self.now.kept) _ _ _ _ _ _ _ _ _
    (λ read content h. (c.join.new.self, c.in_ok-whole.whole, c.in_ok-whole.ensures.joins, h))
    handles)
    c.process_joined.ensures.handled

pub returns-clause-stopped : goal.returns-clause-stopped
returns-clause-stopped g c =
    IfErr-weaker c.process_joined.result _ _
    (λ error stops. stopped_by _ _ (passes_on c.args.self.now.kept) _ _ _ _ error _ _ _ _ _ _
    (λ read content h. (c.join.new.self, c.in_ok-whole.whole, c.in_ok-whole.ensures.joins, h))
    (λ is. joins_found _ _ _ _ _ c.in_ok-whole.whole c.in_ok-whole.ensures.joins is) stops)
    c.process_joined.ensures.stopped

pub returns-in_err-whole-clause-stopped : goal.returns-in_err-whole-clause-stopped
returns-in_err-whole-clause-stopped g c =
    given c.from_residual.result _ _ c.from_residual.ensures.1 (
      at_reader tt
          (leaves_found c.args.packet.time (fragment_in (view_packet c.args.packet))
          c.args.self.now.arrivals c.join.new.self c.in_err-whole.ensures.err)
          refl (adds_none (g.S.Sink.received c.args.sink.now)),
      adds_none (g.S.Sink.lent c.args.sink.now),
    )

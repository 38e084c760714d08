use Rattle.std.proofs.Common.{Ok, ◌∙◌, sym, ap}
use Rattle.packets.specs.Section.{view_packet}
use Rattle.packets.specs.Front.{front, view_step}
use Rattle.packets.proofs.VisitLemmas.{packet_taken, other_taken}
use Rattle.packets.proofs.visit.visit_front.Goals as goal

pub returns-in-Ok-clause-goes : goal.returns-in-Ok-clause-goes
returns-in-Ok-clause-goes g c =
    packet_taken (g.V.PacketVisitor.taken c.args.visitor.now)
    (g.V.PacketVisitor.taken c.visit.new.self)
    c.args.capture.now
    c.args.buffer.now (view_packet c.in-Ok-Packet.packet) c.in-Ok-Packet.rest.now c.step.new.self
    c.keep_last.new.self
    (ap (front c.args.capture.now) (sym c.held.ensures) ∙ c.in-Ok-Packet.ensures
    ∙ ap (λ f. Ok (view_step f, c.step.new.self)) c.in-Ok-Packet.field-0-is)
    c.in-Ok.ensures.visits c.keep_last.ensures

pub returns-in-Ok-Other-clause-goes : goal.returns-in-Ok-Other-clause-goes
returns-in-Ok-Other-clause-goes g c =
    other_taken (g.V.PacketVisitor.taken c.args.visitor.now) c.args.capture.now c.args.buffer.now
    c.in-Ok-Other.rest.now
    c.step.new.self c.keep_last-in-Ok-Other.new.self
    (ap (front c.args.capture.now) (sym c.held.ensures) ∙ c.in-Ok-Other.ensures
    ∙ ap (λ f. Ok (view_step f, c.step.new.self)) c.in-Ok-Other.field-0-is)
    c.keep_last-in-Ok-Other.ensures

use Rattle.packets.specs.Packets.{end_of}
use Rattle.packets.proofs.VisitLemmas.{on_if_went, on_if_came, over_if, read_all, read_cause, failed}
use Rattle.packets.proofs.visit.visit_packets.Goals as goal

pub steps-preserved-in-Ok-true : goal.steps-preserved-in-Ok-true
steps-preserved-in-Ok-true g c = record {
  on =
      on_if_went _ (g.V.PacketVisitor.taken c.steps.visitor) _ _ _ c.steps.capture _
      c.steps.buffer _ _
      c.steps.invariant.on c.in-Ok-true.ensures.goes c.in-Ok-true.field-0-test;
  sound = λ h. c.in-Ok-true.ensures.sound (c.steps.invariant.sound h);
}

pub steps-preserved : goal.steps-preserved
steps-preserved g c = record {
  on =
      on_if_came _ (g.V.PacketVisitor.taken c.steps.visitor) _ _ (g.R.Read.remaining c.steps.reader)
      _ c.steps.capture _
      c.steps.buffer c.visit_front.new.buffer _ _ _ c.steps.invariant.on c.in-Ok-false.ensures.goes
      c.in-Ok-false.field-0-test c.in-Ok.ensures.ok;
  sound = λ h. c.in-Ok-false.ensures.sound (c.steps.invariant.sound h);
}

pub returns-in-Ok-eq0-clause-all : goal.returns-in-Ok-eq0-clause-all
returns-in-Ok-eq0-clause-all g c =
    read_all _ _ _ _ _ (end_of c.visit_front.new.capture c.held.result.now) c.end_in.result
    (over_if _ (g.V.PacketVisitor.taken c.steps.visitor) _ _ (g.R.Read.remaining c.steps.reader) _
    c.steps.capture _
    c.steps.buffer c.visit_front.new.buffer _ _ _ _ c.steps.invariant.on c.in-Ok-false.ensures.goes
    c.in-Ok-false.field-0-test
    c.in-Ok-eq0.ensures.ok c.in-Ok-eq0.field-0-test c.held.ensures) c.end_in.ensures

pub returns-in-Ok-eq0-clause-cause : goal.returns-in-Ok-eq0-clause-cause
returns-in-Ok-eq0-clause-cause g c =
    read_cause _ _ _ _ _ (end_of c.visit_front.new.capture c.held.result.now) c.end_in.result
    (over_if _ (g.V.PacketVisitor.taken c.steps.visitor) _ _ (g.R.Read.remaining c.steps.reader) _
    c.steps.capture _
    c.steps.buffer c.visit_front.new.buffer _ _ _ _ c.steps.invariant.on c.in-Ok-false.ensures.goes
    c.in-Ok-false.field-0-test
    c.in-Ok-eq0.ensures.ok c.in-Ok-eq0.field-0-test c.held.ensures) c.end_in.ensures

pub returns-in-Err-clause-cause : goal.returns-in-Err-clause-cause
returns-in-Err-clause-cause g c =
    rw c.visit_error.ensures
    (failed _ _ (g.V.PacketVisitor.taken c.steps.visitor) _ _ _ c.steps.capture c.steps.buffer _
    c.steps.invariant.on
    c.in-Err.ensures.goes)

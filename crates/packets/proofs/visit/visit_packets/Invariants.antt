use Rattle.std.specs.Prelude.{◌≡◌, true}
use Rattle.packets.proofs.VisitLemmas.{IsOn}
use Rattle.packets.proofs.visit.visit_packets.Given as goal

abbrev pub invariant-steps : goal.invariant-steps
invariant-steps g l = record {
  on : IsOn (g.V.PacketVisitor.taken l.initial.visitor) (g.V.PacketVisitor.taken l.visitor)
      (g.R.Read.remaining l.initial.reader) (g.R.Read.remaining l.reader) l.capture l.buffer;
  sound : g.V.PacketVisitor.is_sound l.initial.visitor ≡ true
      → g.V.PacketVisitor.is_sound l.visitor ≡ true;
}

use Rattle.std.proofs.Common.{◌∙◌, sym}
use Rattle.der.specs.ObjectIdentifier.{arcs_left, arcs_of, view_arc}
use Rattle.x509_text.specs.ObjectText.{arc_text}
use Rattle.x509_text.proofs.JoinLemmas.{join_begun}
use Rattle.x509_text.proofs.object.add_arcs.Goals as goal

pub loop-arc-init : goal.loop-arc-init
loop-arc-init c =
    rw c.into_iter-arc-iterator.ensures.into_iter_gives (
      tt,
      tt,
      join_begun 46 arc_text (view_arc c.in-Some.first)
          (arcs_left c.next.new.self.next c.next.new.self.numbers.bytes.now)
          (arcs_of c.args.oid.content.now) _ _ (sym c.arcs-arcs.ensures ∙ c.in-Some.ensures.steps)
          c.in_ok-add_arc.ensures,
    )

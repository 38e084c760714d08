use Rattle.std.proofs.Common.{arith, ◌≡◌, Some, subst, ◌∙◌, ap}
use Rattle.std.proofs.lemmas.Grind.{common_steps}
use Rattle.segments.specs.Cells.{run}
use Rattle.dtls_stream.specs.Fragments.{IsBody}
use Rattle.dtls_stream.specs.Messages.{slot}
use Rattle.dtls_stream.proofs.PartLemmas.{body_held, front_none, front_some}
use Rattle.dtls_stream.proofs.messages.Messages.take_front.Goals as goal

pub returns-then-is_none-clause-message : goal.returns-then-is_none-clause-message
returns-then-is_none-clause-message c l h st =
    front_none l h c.args.self.now c.in-Some-Some.part st (grind (arith, common_steps))
    (λ all. let some = c.body.ensures.complete.1 all in let none =
    c.if-is_none.ensures in absurd cc)

pub returns-clause-message : goal.returns-clause-message
returns-clause-message c l h st =
    let first : slot c.args.self.now 0 ≡ Some c.in-Some-Some.part = grind (arith, common_steps) in
    let taken : slot c.args.self.now 0 ≡ Some c.in_ok-part.part = grind (arith, common_steps) in
    let same : c.in-Some-Some.part ≡ c.in_ok-part.part = cc in
    ap Some c.into_message.ensures
    ∙ front_some l h c.args.self.now c.in_ok-part.part (run c.in_ok-part.part.cells) st taken
    (subst (λ p. IsBody p (run p.cells)) same
    (body_held c.body.result c.in-Some-Some.part c.body.ensures.body c.body.ensures.front
    c.if-is_none.ensures))

use Rattle.std.proofs.Common.{arith, ◌≡◌, Some, ◌∙◌}
use Rattle.std.specs.Prelude.{is_some}
use Rattle.std.proofs.lemmas.Grind.{common_steps}
use Rattle.dtls_stream.specs.Messages.{slot}
use Rattle.dtls_stream.proofs.PartLemmas.{front_whole}
use Rattle.dtls_stream.proofs.messages.Messages.is_front_whole.Goals as goal

pub returns : goal.returns
returns c l h st =
    let first : slot c.args.self.now 0 ≡ Some c.in-Some-Some.part = grind (arith, common_steps) in
    let same : c.is_some.result ≡ is_some c.body.result = (let s = c.is_some.ensures in cc) in
    same ∙ front_whole l h c.args.self.now c.in-Some-Some.part c.body.result st first
    c.body.ensures.complete
    c.body.ensures.body

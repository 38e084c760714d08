use Rattle.std.proofs.Common.{IfOk, ap, subst, ◌∙◌}
use Rattle.tls_json.specs.Outline.{object_of}
use Rattle.tls_json.specs.Whole.{HasAll}
use Rattle.tls_json.proofs.Whole.{whole_object}
use Rattle.tls_json.proofs.object.ObjectBuilder.finish.Goals as goal

pub returns : goal.returns
returns c = λ es h.
    let held : HasAll es c.in_ok-self.field-0 =
    subst (λ r. IfOk r (HasAll es)) c.in_ok-self.was h in
    whole_object c.in_ok-self.field-0 ∙ ap (λ xs. object_of xs) held

use Rattle.std.proofs.Common.{IfOk, ap, subst, ◌∙◌}
use Rattle.tls_json.specs.Outline.{HasEntries, IsNamed, object_of}
use Rattle.tls_json.proofs.Entries.{outline_object, names_object}
use Rattle.tls_json.proofs.table.Table.finish.Goals as goal

pub returns-clause-fields : goal.returns-clause-fields
returns-clause-fields c = λ es h.
    let held : HasEntries es c.in_ok-self.field-0 =
    subst (λ r. IfOk r (HasEntries es)) c.in_ok-self.was h in
    outline_object c.in_ok-self.field-0 ∙ ap (λ xs. object_of xs) held

pub returns-clause-names : goal.returns-clause-names
returns-clause-names c = λ ns h.
    let held : IsNamed ns c.in_ok-self.field-0 =
    subst (λ r. IfOk r (IsNamed ns)) c.in_ok-self.was h in
    names_object c.in_ok-self.field-0 ∙ held

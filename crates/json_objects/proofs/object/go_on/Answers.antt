use Rattle.std.proofs.Common.{ap, ◌∙◌}
use Rattle.json_objects.specs.Shown.{shown}
use Rattle.json_objects.proofs.Texts.{shown-fresh}
use Rattle.json_objects.proofs.object.go_on.Goals as goal

pub returns-in-Some-clause-text : goal.returns-in-Some-clause-text
returns-in-Some-clause-text c =
    shown-fresh c.new.result c.in-Some.text.items c.new.ensures.before c.new.ensures.tokens ∙ ap (λ f. shown f c.args.writer.now) c.in-Some.ensures.value

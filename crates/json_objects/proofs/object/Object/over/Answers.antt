use Rattle.std.proofs.Common.{◌≡◌, ◌∷◌, ◌++◌, [], ap, ◌∙◌}
use Rattle.json_objects.proofs.Texts.{shown-fresh}
use Rattle.json_objects.proofs.object.Object.over.Goals as goal

pub returns : goal.returns
returns c =
    let empty : c.reserve.new.self.items ≡ [] = cc in
    shown-fresh c.new.result (123 ∷ []) (c.new.ensures.before ∙ c.in_ok-push.ensures.items ∙ ap (λ l. l ++ 123 ∷ []) empty) c.new.ensures.tokens

use Rattle.std.proofs.Common.{rules, not}
use Rattle.std.proofs.lemmas.List.Elements.{filter_from_retain}
use Rattle.tls_fingerprints.specs.Ja4.{is_in_first_part}
use Rattle.tls_fingerprints.proofs.ja4.remove_first_part.Goals as goal

pub returns : goal.returns
returns c = filter_from_retain _ (λ n. not (is_in_first_part n)) (λ p x b q h. search rules) _ _ _
    c.retain.ensures.filtered

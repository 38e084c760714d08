use Rattle.std.proofs.Common.{[], List, ℕ, ap, rules, subst, ◌∙◌}
use Rattle.layouts.specs.Items.{items_in}
use Rattle.layouts.specs.Layout.{number}
use Rattle.tls_fingerprints.specs.Numbers.{IsFilled, without_grease}
use Rattle.tls_fingerprints.proofs.DigestLemmas.{types_are}
use Rattle.tls_fingerprints.proofs.hellos.ClientHelloParts.types_part.Goals as goal

pub returns-clause-some : goal.returns-clause-some
returns-clause-some c =
    types_are c.in_ok-types.types.all c.in_ok-types.types.others c.feed_algorithms-any.result
    c.other_types_in.new.room
    _ _ _ (without_grease (items_in (number 2) c.algorithms.result.bytes.now)) _ _
    (search rules)
    (subst (λ (ns : List ℕ). IsFilled c.other_types_in.new.room c.in_ok-types.types.others ns)
    (search rules)
    c.in_ok-types.ensures.some.1)
    (search rules)
    (ap without_grease c.algorithms.ensures)
    c.feed_algorithms-any.ensures.any
    (λ e. c.short_digits_of.ensures _
    (c.feed_algorithms-any.ensures.text _ (c.feed_rising.ensures [] c.new-text.ensures))
    (c.is_nothing-is_empty.ensures ∙ e))

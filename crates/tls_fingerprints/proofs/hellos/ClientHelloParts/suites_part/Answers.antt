use Rattle.std.proofs.Common.{[], List, ℕ, rules, subst}
use Rattle.tls_fingerprints.specs.Numbers.{IsFilled}
use Rattle.tls_fingerprints.proofs.DigestLemmas.{suites_are}
use Rattle.tls_fingerprints.proofs.hellos.ClientHelloParts.suites_part.Goals as goal

pub returns-clause-some : goal.returns-clause-some
returns-clause-some c =
    suites_are c.in_ok-count.count c.kept_in.new.room _ _ _
    (subst (λ (ns : List ℕ). IsFilled c.kept_in.new.room c.in_ok-count.count ns) (search rules)
    c.in_ok-count.ensures.some)
    (search rules)
    (c.short_digits_of.ensures _ (c.feed_rising.ensures [] c.new-text.ensures))

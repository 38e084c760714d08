use Rattle.tls_fingerprints.proofs.RisingLemmas.{sorted_is_rising}
use Rattle.std.proofs.lemmas.List.Sorted.{IsNonDecreasingBy-from_sort}
use Rattle.tls_fingerprints.proofs.numbers.rise.Goals as goal

pub returns : goal.returns
returns c = sorted_is_rising _ _ c.sort_unstable.ensures.permutation
    (IsNonDecreasingBy-from_sort (λ x. x) _ c.sort_unstable.ensures.sorted)

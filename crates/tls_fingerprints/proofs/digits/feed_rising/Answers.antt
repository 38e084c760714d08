use Rattle.std.proofs.Common.{◌++◌, ap, subst}
use Rattle.std.proofs.lemmas.List.Sorted.{IsNonDecreasingBy-from_sort}
use Rattle.sha2.specs.Hashers.{Holds256}
use Rattle.tls_fingerprints.specs.Numbers.{hex_list}
use Rattle.tls_fingerprints.proofs.RisingLemmas.{sorted_is_rising}
use Rattle.tls_fingerprints.proofs.digits.feed_rising.Goals as goal

pub returns : goal.returns
returns c = λ m held. subst (Holds256 c.feed_hex_list.new.text)
    (ap (λ ns. m ++ hex_list ns) (sorted_is_rising _ _ c.sort_unstable.ensures.permutation
    (IsNonDecreasingBy-from_sort (λ x. x) _ c.sort_unstable.ensures.sorted)))
    (c.feed_hex_list.ensures m held)

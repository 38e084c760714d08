use Rattle.std.proofs.Common.{ℕ, List, ◌++◌, ◌∷◌, take}
use Rattle.std.specs.List.{flat_map}
use Rattle.sha2.specs.Hashers.{Holds256}
use Rattle.tls_fingerprints.specs.Numbers.{four_digits}
use Rattle.tls_fingerprints.proofs.feeding.feed_hex_list.Given as goal

abbrev pub invariant-loop-n : goal.invariant-loop-n
invariant-loop-n l = (m : List ℕ) → Holds256 l.initial.text m
    → Holds256 l.text (m ++ flat_map (λ n. 44 ∷ four_digits n) (take l.n-index l.others))

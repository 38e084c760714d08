use Rattle.std.proofs.Common.{ℕ, List, ◌++◌, ◌∷◌, take, decimal}
use Rattle.std.specs.List.{flat_map}
use Rattle.md5.specs.Md5.{Holds}
use Rattle.tls_fingerprints.proofs.feeding.feed_dashed.Given as goal

abbrev pub invariant-loop-n : goal.invariant-loop-n
invariant-loop-n l =
    (m : List ℕ) → Holds l.initial.text m
    → Holds l.text (m ++ flat_map (λ n. 45 ∷ decimal n) (take l.n-index l.others))

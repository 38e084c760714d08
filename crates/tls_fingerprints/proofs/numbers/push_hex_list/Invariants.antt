use Rattle.std.proofs.Common.{◌≡◌, ◌++◌, ◌∷◌, take}
use Rattle.std.specs.List.{flat_map}
use Rattle.tls_fingerprints.specs.Numbers.{four_digits}
use Rattle.tls_fingerprints.proofs.numbers.push_hex_list.Given as goal

abbrev pub invariant-loop-n : goal.invariant-loop-n
invariant-loop-n l = l.text.items
    ≡ l.initial.text.items ++ flat_map (λ n. 44 ∷ four_digits n) (take l.n-index l.others)

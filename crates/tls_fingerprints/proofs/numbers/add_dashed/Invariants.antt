use Rattle.std.proofs.Common.{◌≡◌, ◌++◌, ◌∷◌, take}
use Rattle.std.specs.List.{flat_map}
use Rattle.std.specs.String.{string_bytes}
use Rattle.tls_fingerprints.proofs.numbers.add_dashed.Given as goal

abbrev pub invariant-loop-n : goal.invariant-loop-n
invariant-loop-n g l = string_bytes l.text
    ≡ string_bytes l.initial.text ++ flat_map (λ n. 45 ∷ g.N.Integer.text n)
    (take l.n-index l.others)

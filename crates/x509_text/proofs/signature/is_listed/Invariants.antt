use Rattle.std.proofs.Common.{◌≡◌, drop, map}
use Rattle.std.specs.List.{list_any}
use Rattle.std.specs.Str.{bytes_eq}
use Rattle.x509_text.proofs.signature.is_listed.Given as goal

abbrev pub invariant-loop-algorithm : goal.invariant-loop-algorithm
invariant-loop-algorithm l =
    list_any (λ c. bytes_eq c l.content) (map (λ a. a.content.now) (drop l.algorithm-index l.table))
    ≡ list_any (λ c. bytes_eq c l.content) (map (λ a. a.content.now) l.table)

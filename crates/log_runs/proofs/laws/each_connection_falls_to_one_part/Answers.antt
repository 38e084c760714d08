use Rattle.std.proofs.Common.{◌≡◌, ◌+◌, ◌%◌, ◌/◌, ◌^◌, ◌==◌, true, refl, subst, sym}
use Rattle.connection_parts.specs.Part.{ends_hash, spread}
use Rattle.log_runs.proofs.PartLemmas.{one_number, some_number}
use Rattle.log_runs.proofs.laws.each_connection_falls_to_one_part.Goals as goal

pub returns-clause-some : goal.returns-clause-some
returns-clause-some c = λ p a b last. some_number (spread (ends_hash p a b) / 2 ^ 32) last

pub returns-clause-one : goal.returns-clause-one
returns-clause-one c = λ p a b part other same h k.
    let x = spread (ends_hash p a b) / 2 ^ 32 in
    one_number x part.last part.number h other.number refl
    (subst (λ n. (x % (n + 1) == other.number) ≡ true) (sym same) k)

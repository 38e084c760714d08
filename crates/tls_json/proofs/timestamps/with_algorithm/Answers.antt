use Rattle.std.proofs.Common.{IfOk, ◌++◌, Option, sym, subst}
use Rattle.std.specs.Option.{option_map}
use Rattle.tls_key_exchange.specs.Signature.{view_algorithm}
use Rattle.tls_key_exchange.specs.declared.signature.SignatureAndHashAlgorithm.{SignatureAndHashAlgorithm}
use Rattle.tls_json.specs.Timestamps.{algorithm_entries}
use Rattle.tls_json.specs.Whole.{HasAll}
use Rattle.tls_json.proofs.timestamps.with_algorithm.Goals as goal

pub returns-in-Some : goal.returns-in-Some
returns-in-Some c = λ es h.
    let Of : Option SignatureAndHashAlgorithm → Type 0 =
    λ p. IfOk c.add.result.members
    (HasAll (es ++ algorithm_entries (option_map view_algorithm p))) in
    subst Of (sym c.in-Some.is) (c.add.ensures es _ h c.algorithm.ensures)

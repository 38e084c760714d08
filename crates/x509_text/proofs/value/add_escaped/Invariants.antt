use Rattle.std.proofs.Common.{◌≡◌, ◌++◌, true, length}
use Rattle.std.specs.String.{string_bytes}
use Rattle.x509_text.specs.Value.{escaped}
use Rattle.x509_text.proofs.value.add_escaped.Given as goal

abbrev pub invariant-loop-rest : goal.invariant-loop-rest
invariant-loop-rest l =
    string_bytes l.text ++ escaped l.first l.rest ≡ string_bytes l.fn.text ++ escaped true
    l.fn.string

abbrev pub decreases-loop-rest : goal.decreases-loop-rest
decreases-loop-rest l = length l.rest

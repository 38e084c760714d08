use Rattle.std.proofs.Common.{IfOk, ◌++◌, sym, subst}
use Rattle.tls_json.specs.Outline.{IsNamed}
use Rattle.tls_json.specs.Tables.{params_names}
use Rattle.tls_json.proofs.key_exchange.with_public_values.Goals as goal

pub returns-in-Ok : goal.returns-in-Ok
returns-in-Ok c = λ ns h.
    subst (λ p. IfOk c.add.result.fields (IsNamed (ns ++ params_names p))) (sym c.in-Dh.is)
    (c.add.ensures.names ns h)

use Rattle.std.proofs.Common.{subst}
use Rattle.tls_json.specs.Whole.{Is, name_or_code}
use Rattle.tls_json.proofs.responses.reason_value.Goals as goal

pub returns : goal.returns
returns c =
    subst (λ name. Is (name_or_code name c.args.reason) c.code.result) c.reason_name.ensures
    c.code.ensures

use Rattle.std.proofs.Common.{[]}
use Rattle.tls_json.proofs.table.single.Goals as goal

pub returns-clause-fields : goal.returns-clause-fields
returns-clause-fields c =
    λ d h. c.finish.ensures.fields _ (c.add.ensures.fields [] d c.new.ensures.fields h)

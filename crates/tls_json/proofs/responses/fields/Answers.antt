use Rattle.std.proofs.Common.{[]}
use Rattle.tls_json.proofs.responses.fields.Goals as goal

pub returns : goal.returns
returns c =
    let front = c.add-front.ensures [] _ c.new.ensures c.status_value-status.ensures in
    c.finish.ensures _ (c.with_some_answer.ensures _ front)

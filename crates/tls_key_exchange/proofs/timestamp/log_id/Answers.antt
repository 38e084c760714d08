use Rattle.tls_key_exchange.specs.Timestamp.{view_log_id}
use Rattle.tls_key_exchange.proofs.FrontLemmas.{front_read}
use Rattle.tls_key_exchange.proofs.timestamp.log_id.Goals as goal

pub returns-in-Some : goal.returns-in-Some
returns-in-Some c =
    front_read view_log_id 32 c.args.i.now (record { key_id = c.in-Some.key_id })
    c.split_at.result.1
    c.in-Some.ensures.cases.enough c.in-Some.ensures.cases.same c.split_at.ensures.back

use Rattle.std.proofs.Common.{◌∙◌, ap, rules}
use Rattle.log_connections.specs.Found.{counts_tls, counts_none, with_gap, with_outcome, with_protocol}
use Rattle.log_connections.proofs.found.add_connection.Goals as goal

pub returns-then-not-is_tls_or_dtls : goal.returns-then-not-is_tls_or_dtls
returns-then-not-is_tls_or_dtls g c =
    counts_none
    (rw c.if-not-is_tls_or_dtls.true at c.is_tls_or_dtls.ensures)
    (rw (← c.add_early.ensures) (search (rules)))

pub returns : goal.returns
returns g c =
    counts_tls c.outcome.result c.has_gap.result
    (rw c.if-not-is_tls_or_dtls.false at c.is_tls_or_dtls.ensures) c.outcome.ensures c.has_gap.ensures
    (c.add_gap.ensures
    ∙ ap (with_gap c.has_gap.result) (c.add_outcome.ensures
    ∙ ap (with_outcome c.outcome.result) (c.add_protocol.ensures
    ∙ ap (with_protocol c.args.connection.now.protocol) c.add_early.ensures)))

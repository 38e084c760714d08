use Rattle.tls_records.specs.Record.{view_plaintext}
use Rattle.tls_records.proofs.RecordTextLemmas.{plaintext_writes_back}
use Rattle.tls_records.proofs.plaintext.parse_tls_plaintext.Goals as goal

pub returns-clause-written_back : goal.returns-clause-written_back
returns-clause-written_back c =
    plaintext_writes_back view_plaintext c.args.i.now c.record_with_messages.result

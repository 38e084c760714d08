use Rattle.tls_records.specs.Record.{view_plaintext}
use Rattle.tls_records.proofs.RecordTextLemmas.{written_reads}
use Rattle.tls_records.proofs.writer.gen_tls_plaintext.Goals as goal

pub returns-clause-read_back : goal.returns-clause-read_back
returns-clause-read_back g c =
    written_reads (view_plaintext c.args.p.now) c.write_whole.result c.in_ok-text.ensures.builds.0
    c.in_ok-text.ensures.range

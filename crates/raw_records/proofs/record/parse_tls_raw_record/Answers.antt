use Rattle.raw_records.specs.RawRecord.{view_header}
use Rattle.raw_records.proofs.RawRecordLemmas.{read_in_front}
use Rattle.raw_records.proofs.record.parse_tls_raw_record.Goals as goal

pub returns-clause-in_front : goal.returns-clause-in_front
returns-clause-in_front c =
    read_in_front c.args.i.now c.in_ok-i.i.now c.in_ok-i-2.i.now c.in_ok-i-2.bytes.now
    (view_header c.in_ok-i.hdr)
    c.in_ok-i.ensures.gives.read c.in_ok-i-2.ensures.read

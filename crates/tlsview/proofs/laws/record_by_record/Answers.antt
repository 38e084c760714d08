use Rattle.tlsview.proofs.RecordLemmas.{record_by_record}
use Rattle.tlsview.proofs.laws.record_by_record.Goals as goal

pub returns : goal.returns
returns c = record_by_record

use Rattle.raw_records.proofs.RawRecordLemmas.{record_in_front}
use Rattle.raw_records.proofs.laws.raw_record_stands_in_front.Goals as goal

pub returns : goal.returns
returns c = record_in_front

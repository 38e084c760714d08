use Rattle.json_objects.proofs.Reading.{reads-back}
use Rattle.json_objects.proofs.laws.text_reads_back.Goals as goal

pub returns : goal.returns
returns c es = reads-back es

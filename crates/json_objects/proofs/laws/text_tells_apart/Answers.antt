use Rattle.json_objects.proofs.Reading.{told-apart}
use Rattle.json_objects.proofs.laws.text_tells_apart.Goals as goal

pub returns : goal.returns
returns c es fs = told-apart es fs

use Rattle.json_objects.proofs.Breaks.{has_no_break}
use Rattle.json_objects.proofs.laws.text_has_no_break.Goals as goal

pub returns : goal.returns
returns c es = has_no_break es

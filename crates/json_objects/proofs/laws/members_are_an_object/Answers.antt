use Rattle.json_objects.proofs.Texts.{object_text}
use Rattle.json_objects.proofs.laws.members_are_an_object.Goals as goal

pub returns : goal.returns
returns c es = object_text es

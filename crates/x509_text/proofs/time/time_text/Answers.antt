use Rattle.std.proofs.Common.{rules}
use Rattle.x509_text.proofs.time.time_text.Goals as goal

pub returns : goal.returns
returns c = (c.in-Ok.time, search rules, search rules)

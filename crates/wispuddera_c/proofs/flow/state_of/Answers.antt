use Rattle.std.proofs.Common.{◌∙◌}
use Rattle.tls_base.proofs.RisingLemmas.{got}
use Rattle.wispuddera_c.specs.Flow.{states}
use Rattle.wispuddera_c.proofs.flow.state_of.Goals as goal

pub returns : goal.returns
returns c = c.copied.ensures ∙ got states c.args.number c.get.result c.get.ensures.lookup.3

use Rattle.std.proofs.Common.{[], ◌∙◌, ap, arith}
use Rattle.layouts.specs.Items.{items_in}
use Rattle.layouts.proofs.ItemsLemmas.{none_in}
use Rattle.x509.specs.GeneralName.{general_name}
use Rattle.log_certificates.proofs.extensions.no_names.Goals as goal

pub returns : goal.returns
returns c = ap (λ b. items_in general_name b) c.new.ensures ∙ none_in general_name [] (omega arith)

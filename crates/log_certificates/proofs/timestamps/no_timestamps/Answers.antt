use Rattle.std.proofs.Common.{[], ◌∙◌, ap, arith}
use Rattle.layouts.specs.Items.{items_in}
use Rattle.layouts.proofs.ItemsLemmas.{none_in}
use Rattle.tls_key_exchange.specs.Timestamp.{serialized_timestamp}
use Rattle.log_certificates.proofs.timestamps.no_timestamps.Goals as goal

pub returns : goal.returns
returns c =
    ap (λ b. items_in serialized_timestamp b) c.new.ensures
    ∙ none_in serialized_timestamp [] (omega arith)

use Rattle.std.proofs.Common.{◌∙◌, ap, sym}
use Rattle.std.specs.Option.{option_map}
use Rattle.tls_base.proofs.NameLemmas.{look_up-map}
use Rattle.log_formats.proofs.versions.find_name.Goals as goal

pub returns : goal.returns
returns c =
    ap (option_map (λ t. t.now)) c.find_number.ensures
    ∙ sym (look_up-map (λ t. t.now) c.args.table.now c.args.n)

use Rattle.std.proofs.Common.{◌∙◌, ap, sym}
use Rattle.std.specs.List.{zip}
use Rattle.std.specs.Option.{option_map}
use Rattle.tls_base.proofs.NameLemmas.{look_up-map}
use Rattle.tls_base.proofs.name.find_rising_name.Goals as goal

pub returns : goal.returns
returns c =
    ap (option_map (λ t. t.now)) c.find_rising.ensures
    ∙ sym (look_up-map (λ t. t.now) (zip c.args.numbers.now c.args.names.now) c.args.n)

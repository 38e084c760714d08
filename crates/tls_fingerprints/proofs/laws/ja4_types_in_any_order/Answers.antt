use Rattle.std.proofs.Common.{◌∙◌, ap, not}
use Rattle.tls_fingerprints.specs.Numbers.{hex_list, is_grease, rising, without_grease}
use Rattle.tls_ext.specs.Offered.{algorithms_in}
use Rattle.tls_fingerprints.specs.Hellos.{types_in}
use Rattle.tls_fingerprints.specs.Ja4.{is_in_first_part, other_types, with_algorithms}
use Rattle.tls_fingerprints.proofs.RisingLemmas.{rising_kept_twice}
use Rattle.tls_fingerprints.proofs.laws.ja4_types_in_any_order.Goals as goal

pub returns : goal.returns
returns c g h moved e =
    ap (λ ns. with_algorithms (hex_list ns) (without_grease (algorithms_in g.extensions)))
    (rising_kept_twice (λ n. not (is_grease n)) (λ n. not (is_in_first_part n))
    (types_in g.extensions)
    (types_in h.extensions) moved)
    ∙ ap (λ ns. with_algorithms
    (hex_list (rising (other_types (without_grease (types_in h.extensions)))))
    (without_grease ns)) e

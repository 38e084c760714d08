use Rattle.std.proofs.Common.{ap, not}
use Rattle.tls_fingerprints.specs.Numbers.{hex_list, is_grease}
use Rattle.tls_fingerprints.proofs.RisingLemmas.{rising_kept}
use Rattle.tls_fingerprints.proofs.laws.ja4_suites_in_any_order.Goals as goal

pub returns : goal.returns
returns c g h moved = ap hex_list (rising_kept (λ n. not (is_grease n)) g.suites h.suites moved)

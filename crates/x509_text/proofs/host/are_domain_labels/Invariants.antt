use Rattle.std.proofs.Common.{◌≡◌, ◌+◌, length}
use Rattle.std.specs.Option.{option_map_or}
use Rattle.x509_text.specs.Host.{are_domain_labels, labels_left}
use Rattle.x509_text.proofs.host.are_domain_labels.Given as goal

abbrev pub invariant-loop-rest : goal.invariant-loop-rest
invariant-loop-rest l =
    are_domain_labels (labels_left l.rest) ≡ are_domain_labels (labels_left l.fn.name)

abbrev pub decreases-loop-rest : goal.decreases-loop-rest
decreases-loop-rest l = option_map_or (λ r. length r.now + 1) l.rest 0

use Rattle.std.proofs.Common.{◌≡◌, ◌+◌, length}
use Rattle.std.specs.Option.{option_map_or}
use Rattle.x509_text.specs.Host.{labels_left, same_labels}
use Rattle.x509_text.proofs.host.same_name.Given as goal

abbrev pub invariant-loop-a : goal.invariant-loop-a
invariant-loop-a l = same_labels (labels_left l.a) (labels_left l.b) ≡ same_labels
    (labels_left l.fn.a) (labels_left l.fn.b)

abbrev pub decreases-loop-a : goal.decreases-loop-a
decreases-loop-a l = option_map_or (λ r. length r.now + 1) l.a 0

use Rattle.std.proofs.Common.{◌≡◌, ◌++◌, None}
use Rattle.layouts.specs.Items.{items_in}
use Rattle.layouts.specs.Layout.{counted}
use Rattle.tls_summary.specs.ChainOrder.{order_behind, view_order}
use Rattle.tls_summary.specs.Parts.{summaries_of_all}
use Rattle.tls_summary.proofs.OrderLemmas.{order_with}
use Rattle.tls_summary.proofs.parts.summaries_of.Given as goal

abbrev pub invariant-loop-certificate : goal.invariant-loop-certificate
invariant-loop-certificate l =
    (goal.iterator-loop-certificate).can_next l.certificate-iterator ×
    (goal.iterator-loop-certificate).is_finite l.certificate-iterator ×
    (l.summaries.items ++ summaries_of_all (items_in (counted 3) l.certificate-iterator.bytes.now)
    ≡ summaries_of_all (items_in (counted 3) l.fn.chain.bytes.now)) ×
    (order_with (view_order l.order) (items_in (counted 3) l.certificate-iterator.bytes.now)
    ≡ order_behind None (items_in (counted 3) l.fn.chain.bytes.now))

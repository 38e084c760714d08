use Rattle.std.proofs.Common.{◌≡◌}
use Rattle.layouts.specs.Items.{items_in}
use Rattle.tls_hs.specs.InPlace.{raw_handshake}
use Rattle.tls_ext.specs.InPlace.{first_of}
use Rattle.tls_places.proofs.host_name.body_place.Given as goal

abbrev pub invariant-loop-message : goal.invariant-loop-message
invariant-loop-message l =
    (goal.iterator-loop-message).can_next l.message-iterator ×
    (goal.iterator-loop-message).is_finite l.message-iterator ×
    (l.message-iterator.whole.now ≡ l.fragment) ×
    (first_of l.kind.0 (items_in raw_handshake l.fragment)
    ≡ first_of l.kind.0 (items_in raw_handshake l.message-iterator.rest.now))

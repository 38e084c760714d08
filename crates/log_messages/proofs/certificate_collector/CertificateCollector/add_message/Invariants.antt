use Rattle.std.proofs.Common.{◌≡◌, ◌++◌, map}
use Rattle.std.specs.Option.{option_map}
use Rattle.layouts.specs.Items.{items_in}
use Rattle.layouts.specs.Layout.{counted}
use Rattle.tls_flow.specs.Bytes.{view_handshake_message}
use Rattle.log_messages.specs.Certificates.{certificates_of, counted_behind, counted_from, sent_from, sent_in, view_sent}
use Rattle.log_messages.proofs.certificate_collector.CertificateCollector.add_message.Given as goal

-- Those that are kept, and those that are left, are all of the message.
abbrev pub invariant-loop-certificate : goal.invariant-loop-certificate
invariant-loop-certificate l =
    (goal.iterator-loop-certificate).can_next l.certificate-iterator
    × (goal.iterator-loop-certificate).is_finite l.certificate-iterator
    × (map view_sent l.self.kept.items
    ++ sent_from l.direction l.place l.self.count (items_in (counted 3) l.certificate-iterator.bytes.now)
    ≡ map view_sent l.initial.self.kept.items ++ sent_in l.direction l.initial.self.count
    (certificates_of (option_map (λ m. view_handshake_message m.now) l.fn.message)))
    × (counted_from l.self.count (items_in (counted 3) l.certificate-iterator.bytes.now)
    ≡ counted_behind l.initial.self.count
    (certificates_of (option_map (λ m. view_handshake_message m.now) l.fn.message)))

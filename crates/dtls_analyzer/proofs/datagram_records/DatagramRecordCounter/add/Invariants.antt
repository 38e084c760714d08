use Rattle.std.proofs.Common.{◌≡◌}
use Rattle.layouts.specs.Items.{items_in}
use Rattle.raw_records.specs.DatagramRecord.{datagram_record13}
use Rattle.dtls_analyzer.specs.DatagramRecords.{with_records}
use Rattle.dtls_analyzer.proofs.datagram_records.DatagramRecordCounter.add.Given as goal

abbrev pub invariant-loop-record : goal.invariant-loop-record
invariant-loop-record l =
    (goal.iterator-loop-record).can_next l.record-iterator ×
    (goal.iterator-loop-record).is_finite l.record-iterator ×
    (with_records l.is_13 (items_in (datagram_record13 l.connection_id_len) l.fn.datagram) l.fn.self
    ≡ with_records l.is_13
    (items_in (datagram_record13 l.record-iterator.connection_id_len) l.record-iterator.left.now)
    l.self)

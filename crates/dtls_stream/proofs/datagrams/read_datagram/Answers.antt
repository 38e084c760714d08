use Rattle.std.proofs.Common.{◌-◌, ◌+◌, arith, length}
use Rattle.layouts.specs.Answers.{refusal_of}
use Rattle.raw_records.specs.RawDtlsRecord.{view_raw_record}
use Rattle.dtls_stream.specs.Messages.{view_events}
use Rattle.dtls_stream.proofs.StoppedLemmas.{any_err, on_err}
use Rattle.dtls_stream.specs.Datagrams.{datagram, fragments_of}
use Rattle.dtls_stream.proofs.DatagramLemmas.{on_ok}
use Rattle.dtls_stream.proofs.ReadingLemmas.{
  reading_begins,
  reading_cut,
  reading_ends,
  reading_fails,
  reading_next,
  reading_not_emitted,
}
use Rattle.dtls_stream.proofs.datagrams.read_datagram.Goals as goal

pub records-init : goal.records-init
records-init c a h st =
    reading_begins a h c.args.datagram.now _ _ c.args.messages.now (omega arith) st

pub records-preserved : goal.records-preserved
records-preserved c a h st =
    reading_next a h (fragments_of c.args.datagram.now) (datagram a h c.args.datagram.now)
    (length c.args.datagram.now - c.records.taken)
    (length c.args.datagram.now - (c.records.taken + 1))
    c.records.left.now c.in-Ok.rest.now
    (view_raw_record c.in-Ok.raw) (view_events c.args.events.now.items)
    (view_events c.records.events.items)
    (view_events c.read_record_events.new.events.items) c.records.messages
    c.read_record_events.new.messages
    (omega arith) c.in-Ok.ensures.read (c.records.invariant a h st)
    c.in_ok-read_record_events-in-Ok.ensures.emitted

pub returns-in_err-read_record_events-in-Ok-clause-stopped
    : goal.returns-in_err-read_record_events-in-Ok-clause-stopped
returns-in_err-read_record_events-in-Ok-clause-stopped c a h st =
    any_err c.from_residual.result
    (reading_cut a h (fragments_of c.args.datagram.now) (datagram a h c.args.datagram.now)
    (length c.args.datagram.now - c.records.taken)
    (length c.args.datagram.now - (c.records.taken + 1))
    c.records.left.now c.in-Ok.rest.now
    (view_raw_record c.in-Ok.raw) (view_events c.args.events.now.items)
    (view_events c.records.events.items)
    (view_events c.read_record_events.new.events.items) c.records.messages
    c.read_record_events.new.messages
    (omega arith) c.in-Ok.ensures.read (c.records.invariant a h st)
    c.in_err-read_record_events-in-Ok.ensures.stopped)

pub returns-in-Err-clause-emitted : goal.returns-in-Err-clause-emitted
returns-in-Err-clause-emitted c a h st =
    on_ok c.emit_unread.result c.emit_unread.ensures.emitted
    (reading_fails a h (fragments_of c.args.datagram.now) (datagram a h c.args.datagram.now)
    (length c.args.datagram.now - c.records.taken)
    (length c.args.datagram.now - (c.records.taken + 1))
    c.records.left.now
    (refusal_of c.in-Err.error) (view_events c.args.events.now.items)
    (view_events c.records.events.items)
    (view_events c.emit_unread.new.events.items) c.records.messages
    (omega arith) c.in-Err.ensures.read (c.records.invariant a h st))

pub returns-in-Err-clause-stopped : goal.returns-in-Err-clause-stopped
returns-in-Err-clause-stopped c a h st =
    on_err c.emit_unread.result c.emit_unread.ensures.stopped
    (reading_not_emitted a h (fragments_of c.args.datagram.now) (datagram a h c.args.datagram.now)
    (length c.args.datagram.now - c.records.taken) c.records.left.now
    (view_events c.args.events.now.items) (view_events c.records.events.items)
    (view_events c.emit_unread.new.events.items) c.records.messages (c.records.invariant a h st))

pub returns-clause-emitted : goal.returns-clause-emitted
returns-clause-emitted c a h st =
    reading_ends a h (fragments_of c.args.datagram.now) (datagram a h c.args.datagram.now)
    (length c.args.datagram.now - c.records.taken) c.records.left.now
    (view_events c.args.events.now.items)
    (view_events c.records.events.items) c.records.messages
    (omega arith) (c.records.invariant a h st)

use Rattle.std.proofs.Common.{ap}
use Rattle.raw_records.specs.RawDtlsRecord.{view_raw_record}
use Rattle.dtls_stream.specs.Messages.{view_events}
use Rattle.dtls_stream.proofs.StoppedLemmas.{any_err, on_err}
use Rattle.dtls_stream.specs.Datagrams.{fragments_in_record, record_step}
use Rattle.dtls_stream.proofs.CutLemmas.{cut_same}
use Rattle.dtls_stream.proofs.DatagramLemmas.{on_ok, other_step}
use Rattle.dtls_stream.proofs.ReadingLemmas.{handshake_cut, other_cut}
use Rattle.dtls_stream.proofs.records.read_record_events.Goals as goal

pub returns-clause-emitted : goal.returns-clause-emitted
returns-clause-emitted c l h st =
    on_ok c.emit_content.result (c.emit_content.ensures.emitted h)
    (λ emitted. other_step l h (view_raw_record c.args.raw) (view_events c.args.events.now.items)
    (view_events c.emit_content.new.events.items) c.args.messages.now c.if-raw-gt0.false
    c.if-raw.false emitted st)

pub returns-clause-stopped : goal.returns-clause-stopped
returns-clause-stopped c l h st =
    on_err c.emit_content.result (c.emit_content.ensures.stopped h)
    (λ part. other_cut l h (view_raw_record c.args.raw) (view_events c.args.events.now.items)
    (view_events c.emit_content.new.events.items) c.args.messages.now c.if-raw-gt0.false
    c.if-raw.false part st)

pub returns-then-raw-clause-stopped : goal.returns-then-raw-clause-stopped
returns-then-raw-clause-stopped c l h st =
    on_err c.read_handshake.result (c.read_handshake.ensures.stopped l h st)
    (handshake_cut l h (view_raw_record c.args.raw) (view_events c.args.events.now.items)
    (view_events c.read_handshake.new.events.items) c.read_handshake.new.messages c.if-raw-gt0.false
    c.if-raw.true)

pub returns-in_err-push-clause-stopped : goal.returns-in_err-push-clause-stopped
returns-in_err-push-clause-stopped c l h st =
    any_err c.from_residual.result
    (cut_same l h (fragments_in_record (view_raw_record c.args.raw))
    (record_step l h (view_raw_record c.args.raw)).1
    (view_events c.args.events.now.items) (view_events c.push.new.self.items)
    c.args.messages.now (ap view_events c.in_err-push.ensures.items) st)

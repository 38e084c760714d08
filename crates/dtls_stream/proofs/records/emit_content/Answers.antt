use Rattle.std.proofs.Common.{◌++◌, ◌∙◌, ap, map, subst}
use Rattle.layouts.specs.Reading.{reading}
use Rattle.raw_records.specs.RawDtlsRecord.{view_header}
use Rattle.dtls_records.specs.DtlsRecord.{record_content, view_message}
use Rattle.dtls_stream.specs.Messages.{view_events}
use Rattle.dtls_stream.proofs.StoppedLemmas.{any_err, on_err}
use Rattle.dtls_stream.specs.Datagrams.{AreEmittedInPart, event_of}
use Rattle.dtls_stream.proofs.DatagramLemmas.{content_ok, on_ok}
use Rattle.dtls_stream.proofs.ReadingLemmas.{content_stopped, content_not_emitted}
use Rattle.dtls_stream.proofs.records.emit_content.Goals as goal

pub returns-in_ok-emit_messages-in-Ok-clause-emitted
    : goal.returns-in_ok-emit_messages-in-Ok-clause-emitted
returns-in_ok-emit_messages-in-Ok-clause-emitted c h =
    rw (← c.content_bytes.ensures)
    (on_ok c.emit_left_over.result c.emit_left_over.ensures.emitted
    (content_ok h (view_events c.args.events.now.items)
    (view_events c.emit_messages.new.events.items)
    (view_events c.emit_left_over.new.events.items)
    (reading (record_content (view_header c.args.raw.now.header)) c.content_bytes.result.now)
    c.in-Ok.messages.items
    c.in-Ok.rest.now (c.in-Ok.ensures.gives.read tt)
    (c.in_ok-emit_messages-in-Ok.ensures.emitted
    ∙ ap (λ ms. view_events c.args.events.now.items ++ map (λ m. event_of (view_message m)) ms)
    c.deref.ensures.value)))

pub returns-in_err-emit_messages-in-Ok-clause-stopped
    : goal.returns-in_err-emit_messages-in-Ok-clause-stopped
returns-in_err-emit_messages-in-Ok-clause-stopped c h =
    rw (← c.content_bytes.ensures)
    (any_err c.from_residual.result
    (content_stopped h (view_events c.args.events.now.items)
    (view_events c.emit_messages.new.events.items)
    (reading (record_content (view_header c.args.raw.now.header)) c.content_bytes.result.now)
    c.in-Ok.messages.items
    c.in-Ok.rest.now (c.in-Ok.ensures.gives.read tt)
    (subst (λ ms. AreEmittedInPart (map (λ m. event_of (view_message m)) ms)
    (view_events c.args.events.now.items)
    (view_events c.emit_messages.new.events.items))
    c.deref.ensures.value c.in_err-emit_messages-in-Ok.ensures.stopped)))

pub returns-in_ok-emit_messages-in-Ok-clause-stopped
    : goal.returns-in_ok-emit_messages-in-Ok-clause-stopped
returns-in_ok-emit_messages-in-Ok-clause-stopped c h =
    rw (← c.content_bytes.ensures)
    (on_err c.emit_left_over.result c.emit_left_over.ensures.stopped
    (content_not_emitted h (view_events c.args.events.now.items)
    (view_events c.emit_messages.new.events.items)
    (view_events c.emit_left_over.new.events.items)
    (reading (record_content (view_header c.args.raw.now.header)) c.content_bytes.result.now)
    c.in-Ok.messages.items
    c.in-Ok.rest.now (c.in-Ok.ensures.gives.read tt)
    (c.in_ok-emit_messages-in-Ok.ensures.emitted
    ∙ ap (λ ms. view_events c.args.events.now.items ++ map (λ m. event_of (view_message m)) ms)
    c.deref.ensures.value)))

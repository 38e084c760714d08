use Rattle.std.proofs.Common.{◌≡◌, ◌++◌, take, map}
use Rattle.dtls_records.specs.DtlsRecord.{view_message}
use Rattle.dtls_stream.specs.Messages.{view_events}
use Rattle.dtls_stream.specs.Datagrams.{event_of}
use Rattle.dtls_stream.proofs.records.emit_messages.Given as goal

abbrev pub invariant-loop-message : goal.invariant-loop-message
invariant-loop-message l =
    view_events l.events.items
    ≡ view_events l.initial.events.items ++ map (λ m. event_of (view_message m))
    (take l.message-index l.messages)

use Rattle.std.proofs.Common.{ap}
use Rattle.dtls_records.specs.DtlsRecord.{view_message}
use Rattle.dtls_stream.specs.Messages.{view_events}
use Rattle.dtls_stream.proofs.StoppedLemmas.{any_err}
use Rattle.dtls_stream.specs.Datagrams.{event_of}
use Rattle.dtls_stream.proofs.CutLemmas.{part_taken}
use Rattle.dtls_stream.proofs.records.emit_messages.Goals as goal

pub returns-in_err-push-clause-stopped : goal.returns-in_err-push-clause-stopped
returns-in_err-push-clause-stopped c =
    any_err c.from_residual.result
    (part_taken (λ m. event_of (view_message m)) c.args.messages.now c.loop-message.message-index
    (view_events c.args.events.now.items) (view_events c.loop-message.events.items)
    (view_events c.push.new.self.items) c.loop-message.invariant
    (ap view_events c.in_err-push.ensures.items))

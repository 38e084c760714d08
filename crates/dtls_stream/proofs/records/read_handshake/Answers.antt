use Rattle.std.proofs.Common.{ap, subst}
use Rattle.layouts.specs.Layout.{list1}
use Rattle.layouts.specs.Reading.{reading}
use Rattle.dtls_stream.specs.Fragments.{fragment, view_fragments}
use Rattle.dtls_stream.specs.Messages.{AreReceived, IsStopped, view_events}
use Rattle.dtls_stream.proofs.StoppedLemmas.{any_err, on_err}
use Rattle.dtls_stream.specs.Datagrams.{fragment_record_step, those_read}
use Rattle.dtls_stream.proofs.CutLemmas.{cut_none, cut_same}
use Rattle.dtls_stream.proofs.ReadingLemmas.{fragments_stopped, fragments_not_emitted}
use Rattle.dtls_stream.proofs.records.read_handshake.Goals as goal

pub returns-in_err-read_all-in-Ok-clause-stopped : goal.returns-in_err-read_all-in-Ok-clause-stopped
returns-in_err-read_all-in-Ok-clause-stopped c l h st =
    any_err c.from_residual.result
    (fragments_stopped l h (view_events c.args.events.now.items)
    (view_events c.read_all.new.events.items)
    c.read_all.new.messages
    (reading (list1 fragment) c.args.bytes.now) (view_fragments c.in-Ok.fragments.items)
    c.in-Ok.rest.now
    (c.in-Ok.ensures.read tt)
    (subst (λ fs. IsStopped l h (view_fragments fs) (view_events c.args.events.now.items)
    (view_events c.read_all.new.events.items) c.read_all.new.messages)
    c.deref.ensures.value (c.in_err-read_all-in-Ok.ensures.stopped l h st)))

pub returns-in_ok-read_all-in-Ok-clause-stopped : goal.returns-in_ok-read_all-in-Ok-clause-stopped
returns-in_ok-read_all-in-Ok-clause-stopped c l h st =
    on_err c.emit_left_over.result c.emit_left_over.ensures.stopped
    (fragments_not_emitted l h (view_events c.args.events.now.items)
    (view_events c.read_all.new.events.items)
    (view_events c.emit_left_over.new.events.items) c.read_all.new.messages
    (reading (list1 fragment) c.args.bytes.now) (view_fragments c.in-Ok.fragments.items)
    c.in-Ok.rest.now
    (c.in-Ok.ensures.read tt)
    (subst (λ fs. AreReceived l h (view_fragments fs) (view_events c.args.events.now.items)
    (view_events c.read_all.new.events.items) c.read_all.new.messages)
    c.deref.ensures.value (c.in_ok-read_all-in-Ok.ensures.emitted l h st)))

pub returns-in-Err-OutOfMemory-clause-stopped : goal.returns-in-Err-OutOfMemory-clause-stopped
returns-in-Err-OutOfMemory-clause-stopped c l h st =
    cut_none l h (those_read (reading (list1 fragment) c.args.bytes.now))
    (fragment_record_step c.args.bytes.now l h).1
    (view_events c.args.events.now.items) c.args.messages.now st

pub returns-in_err-push-in-Err-clause-stopped : goal.returns-in_err-push-in-Err-clause-stopped
returns-in_err-push-in-Err-clause-stopped c l h st =
    any_err c.from_residual-in_err-push-in-Err.result
    (cut_same l h (those_read (reading (list1 fragment) c.args.bytes.now))
    (fragment_record_step c.args.bytes.now l h).1
    (view_events c.args.events.now.items) (view_events c.push.new.self.items)
    c.args.messages.now (ap view_events c.in_err-push-in-Err.ensures.items) st)

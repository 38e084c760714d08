use Rattle.dtls_stream.proofs.StoppedLemmas.{any_err, stopped_next}
use Rattle.dtls_stream.proofs.EmittedLemmas.{received_all, received_next, received_none}
use Rattle.dtls_stream.proofs.read.read_all.Goals as goal

pub loop-fragment-init : goal.loop-fragment-init
loop-fragment-init c l h st = received_none l h _ _ st

pub loop-fragment-preserved : goal.loop-fragment-preserved
loop-fragment-preserved c l h st =
    received_next l h c.args.fragments.now c.loop-fragment.fragment-index _ _ _ _
    c.loop-fragment.messages
    c.receive.new.messages
    c.loop-fragment-test.true (c.loop-fragment.invariant l h st) c.in_ok-receive.ensures.emitted

pub returns-in_err-receive-clause-stopped : goal.returns-in_err-receive-clause-stopped
returns-in_err-receive-clause-stopped c l h st =
    any_err c.from_residual.result
    (stopped_next l h c.args.fragments.now c.loop-fragment.fragment-index _ _ _ _
    c.loop-fragment.messages
    c.receive.new.messages
    c.loop-fragment-test.true (c.loop-fragment.invariant l h st) c.in_err-receive.ensures.stopped)

pub returns-clause-emitted : goal.returns-clause-emitted
returns-clause-emitted c l h st =
    received_all l h c.args.fragments.now c.loop-fragment.fragment-index _ _ c.loop-fragment.messages
    c.loop-fragment-test.false (c.loop-fragment.invariant l h st)

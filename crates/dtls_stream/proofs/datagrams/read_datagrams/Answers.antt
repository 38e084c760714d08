use Rattle.std.proofs.Common.{drop, subst, sym}
use Rattle.dtls_stream.specs.Messages.{view_events, view_limits}
use Rattle.dtls_stream.specs.Datagrams.{views}
use Rattle.dtls_stream.proofs.DatagramLemmas.{AreReading, datagrams_begin, datagrams_end, datagrams_next, drop_past}
use Rattle.dtls_stream.proofs.datagrams.read_datagrams.Goals as goal

pub loop-datagram-init : goal.loop-datagram-init
loop-datagram-init c =
    subst (λ es. AreReading (view_limits c.args.limits) (views c.args.datagrams.now)
    (views c.args.datagrams.now)
    (view_events es) c.new-messages.result) (sym c.new-events.ensures.items)
    (datagrams_begin (view_limits c.args.limits) (views c.args.datagrams.now) c.new-messages.result
    c.new-messages.ensures)

pub loop-datagram-preserved : goal.loop-datagram-preserved
loop-datagram-preserved c =
    datagrams_next (view_limits c.args.limits) (views c.args.datagrams.now) c.args.datagrams.now
    c.loop-datagram.datagram-index _ _ _ c.loop-datagram.messages c.read_datagram.new.messages
    c.loop-datagram-test.true c.loop-datagram.invariant c.in_ok-read_datagram.ensures.emitted

pub returns : goal.returns
returns c =
    datagrams_end (view_limits c.args.limits) (views c.args.datagrams.now)
    (views (drop c.loop-datagram.datagram-index c.args.datagrams.now)) _ c.loop-datagram.messages
    (drop_past c.args.datagrams.now c.loop-datagram.datagram-index c.loop-datagram-test.false)
    c.loop-datagram.invariant

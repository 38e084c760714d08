use Rattle.std.proofs.Common.{drop}
use Rattle.dtls_stream.specs.Messages.{view_events, view_limits}
use Rattle.dtls_stream.specs.Datagrams.{views}
use Rattle.dtls_stream.proofs.DatagramLemmas.{AreReading}
use Rattle.dtls_stream.proofs.datagrams.read_datagrams.Given as goal

abbrev pub invariant-loop-datagram : goal.invariant-loop-datagram
invariant-loop-datagram l =
    AreReading (view_limits l.fn.limits) (views l.datagrams)
    (views (drop l.datagram-index l.datagrams))
    (view_events l.events.items) l.messages

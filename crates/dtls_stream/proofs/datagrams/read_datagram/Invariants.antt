use Rattle.std.proofs.Common.{◌-◌, length}
use Rattle.dtls_stream.specs.Messages.{Received, Limits, Stands, view_events}
use Rattle.dtls_stream.specs.Datagrams.{datagram, fragments_of}
use Rattle.dtls_stream.proofs.ReadingLemmas.{IsReading}
use Rattle.dtls_stream.proofs.datagrams.read_datagram.Given as goal

abbrev pub invariant-records : goal.invariant-records
invariant-records l =
    (a : Limits) (h : Received) → Stands a h l.initial.messages →
    IsReading a h (fragments_of l.fn.datagram) (datagram a h l.fn.datagram)
    (length l.fn.datagram - l.taken) l.left
    (view_events l.initial.events.items) (view_events l.events.items) l.messages

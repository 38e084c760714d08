use Rattle.std.proofs.Common.{◌≡◌, drop}
use Rattle.connections.specs.Waiting.{confirmed_from}
use Rattle.connections.proofs.pending.confirmed.Given as goal

abbrev pub invariant-loop-kept : goal.invariant-loop-kept
invariant-loop-kept l =
    confirmed_from l.list l.ack l.known (drop l.kept-index l.list) l.number
    ≡ confirmed_from l.list l.ack l.known l.list l.known.confirmed

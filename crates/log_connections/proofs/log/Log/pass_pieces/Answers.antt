use Rattle.std.proofs.Common.{ap, refl, sym, ◌∙◌}
use Rattle.arrivals.specs.Arrival.{five_tuple_in}
use Rattle.connections.proofs.MemoryLemmas.{accounted_with}
use Rattle.connections.specs.Table.{at}
use Rattle.log_connections.proofs.PacketLemmas.{lends_missing, lends_none, lends_one, lent_none, lent_same, lent_to}
use Rattle.log_connections.proofs.SinkLemmas.{adds_none}
use Rattle.log_connections.specs.Packet.{passes_on}
use Rattle.log_connections.proofs.log.Log.pass_pieces.Goals as goal

pub returns-then-not-passes_pieces-clause-received : goal.returns-then-not-passes_pieces-clause-received
returns-then-not-passes_pieces-clause-received g c = adds_none (g.S.Sink.received c.args.sink.now)

pub returns-then-not-passes_pieces-clause-lent : goal.returns-then-not-passes_pieces-clause-lent
returns-then-not-passes_pieces-clause-lent g c =
    let e = five_tuple_in c.args.arrival.now in
    lent_same e (at e c.args.self.now.connections.live) c.args.self.now.connections refl

pub returns-in-Some-clause-lent : goal.returns-in-Some-clause-lent
returns-in-Some-clause-lent g c =
    rw c.between.ensures
    (lent_to (five_tuple_in c.args.arrival.now) c.args.self.now.connections c.in-Some.open.now
    c.hand_pieces.new.open (rw c.between.ensures at c.in-Some.ensures.value)
    c.hand_pieces.ensures.taken)

pub returns-in-None-clause-received : goal.returns-in-None-clause-received
returns-in-None-clause-received g c = adds_none (g.S.Sink.received c.args.sink.now)

pub returns-in-None-clause-lent : goal.returns-in-None-clause-lent
returns-in-None-clause-lent g c =
    lent_none (five_tuple_in c.args.arrival.now) c.args.self.now.connections
    c.args.self.now.connections (rw c.between.ensures at c.in-None.ensures.value) refl

pub returns-then-not-passes_pieces-clause-lends : goal.returns-then-not-passes_pieces-clause-lends
returns-then-not-passes_pieces-clause-lends g c =
    lends_none (passes_on c.args.self.now.kept)
    (at (five_tuple_in c.args.arrival.now) c.args.self.now.connections.live)
    (g.S.Sink.lent c.args.sink.now)
    (sym c.passes_pieces.ensures ∙ c.if-not-passes_pieces.true)

pub returns-in-Some-clause-lends : goal.returns-in-Some-clause-lends
returns-in-Some-clause-lends g c =
    lends_one (passes_on c.args.self.now.kept)
    (at (five_tuple_in c.args.arrival.now) c.args.self.now.connections.live) c.in-Some.open.now
    (g.S.Sink.lent c.args.sink.now) (g.S.Sink.lent c.hand_pieces.new.sink)
    (sym c.passes_pieces.ensures ∙ c.if-not-passes_pieces.false)
    (rw c.between.ensures at c.in-Some.ensures.value) c.hand_pieces.ensures.lent

pub returns-in-None-clause-lends : goal.returns-in-None-clause-lends
returns-in-None-clause-lends g c =
    lends_missing (passes_on c.args.self.now.kept)
    (at (five_tuple_in c.args.arrival.now) c.args.self.now.connections.live)
    (g.S.Sink.lent c.args.sink.now) (rw c.between.ensures at c.in-None.ensures.value)

pub returns-in-Some-clause-accounted : goal.returns-in-Some-clause-accounted
returns-in-Some-clause-accounted g c =
    rw c.between.ensures
    (accounted_with (five_tuple_in c.args.arrival.now) c.args.self.now.connections
    c.in-Some.open.now c.hand_pieces.new.open
    (rw c.between.ensures at c.in-Some.ensures.value)
    (ap (λ x. x.weight) c.hand_pieces.ensures.taken))

use Rattle.std.proofs.Common.{false, subst}
use Rattle.std.specs.Option.{option_map}
use Rattle.connections.specs.Datagram.{five_tuple_of_datagram}
use Rattle.connections.specs.Table.{at}
use Rattle.log_connections.specs.Log.{before_next, behind_next}
use Rattle.log_connections.specs.Sink.{EndsAs}
use Rattle.log_connections.proofs.PacketLemmas.{given}
use Rattle.log_connections.proofs.OtherLemmas.{keeps_after, keeps_then}
use Rattle.log_connections.proofs.log.Log.replace_exchange.Goals as goal

pub returns-in_err-taken-clause-refused : goal.returns-in_err-taken-clause-refused
returns-in_err-taken-clause-refused g c =
    given c.from_residual.result _ _ c.from_residual.ensures.1 (before_next c.in_err-taken.ensures.err)

pub returns-in-Ok-clause-accepted : goal.returns-in-Ok-clause-accepted
returns-in-Ok-clause-accepted g c = record {
  mid = c.take_exchange.new.self;
  begins = c.in_ok-taken.ensures.left;
  begun = c.in_ok-taken.ensures.attached;
  logs = rw c.with_last-over.ensures.connections at c.in-Ok.ensures.logged;
  ends = subst
      (λ o. EndsAs false o (option_map (λ b. b.value) c.with_last-over.result))
      c.in_ok-taken.ensures.taken c.with_last-over.ensures.ended;
}

pub returns-in-Ok-clause-others : goal.returns-in-Ok-clause-others
returns-in-Ok-clause-others g c =
    let d = c.args.datagram.now in let e = five_tuple_of_datagram d in
    let old = c.args.self.now.connections in
    keeps_then e old.live c.take_exchange.new.self.live c.accept_datagram.new.self.connections.live
    (keeps_after d (at e old.live) old c.take_exchange.new.self c.in_ok-taken.ensures.left)
    (rw c.with_last-over.ensures.connections at c.accept_datagram.ensures.others)

pub returns-in-Err-clause-refused : goal.returns-in-Err-clause-refused
returns-in-Err-clause-refused g c =
    behind_next (option_map (λ b. b.value) c.with_last-over.result) c.take_exchange.new.self
    c.in_ok-taken.ensures.left
    (subst (λ o. EndsAs false o (option_map (λ b. b.value) c.with_last-over.result))
    c.in_ok-taken.ensures.taken c.with_last-over.ensures.ended)
    (rw c.with_last-over.ensures.connections at c.accept_datagram.ensures.others)

pub returns-in-Err-clause-others : goal.returns-in-Err-clause-others
returns-in-Err-clause-others g c =
    let d = c.args.datagram.now in let e = five_tuple_of_datagram d in
    let old = c.args.self.now.connections in
    keeps_then e old.live c.take_exchange.new.self.live c.accept_datagram.new.self.connections.live
    (keeps_after d (at e old.live) old c.take_exchange.new.self c.in_ok-taken.ensures.left)
    (rw c.with_last-over.ensures.connections at c.accept_datagram.ensures.others)

pub returns-in-Ok-clause-accounted : goal.returns-in-Ok-clause-accounted
returns-in-Ok-clause-accounted g c =
    λ h. (rw c.with_last-over.ensures.connections at c.accept_datagram.ensures.accounted)
    (c.take_exchange.ensures.accounted h)

pub returns-in-Err-clause-accounted : goal.returns-in-Err-clause-accounted
returns-in-Err-clause-accounted g c =
    λ h. (rw c.with_last-over.ensures.connections at c.accept_datagram.ensures.accounted)
    (c.take_exchange.ensures.accounted h)

use Rattle.std.proofs.Common.{ap, ◌∙◌}
use Rattle.std.proofs.lemmas.Result.{IfErr-weaker, IfOk-weaker}
use Rattle.std.specs.Option.{option_map}
use Rattle.log_connections.specs.Packet.{at_over, at_pieces, at_refused, ends, goes_on, is_refused}
use Rattle.log_connections.proofs.FoundLemmas.{counted_one}
use Rattle.log_connections.proofs.PacketLemmas.{on_any, refused_then, with_err}
use Rattle.log_connections.proofs.SinkLemmas.{received_then}
use Rattle.log_connections.proofs.log.Log.process_arrival.Goals as goal

pub returns-in-Ok-Some-clause-arrives : goal.returns-in-Ok-Some-clause-arrives
returns-in-Ok-Some-clause-arrives g c =
    rw c.end_connection.ensures.same
    (received_then c.end_connection.result (g.S.Sink.received c.args.sink.now)
    (g.S.Sink.received c.end_connection.new.sink) c.in-Ok-Some.over.value
    (λ received. (
      ends c.in-Ok-Some.over.value
          (rw c.in-Ok-Some.field-0-is at c.in-Ok-Some.ensures.accepted) received,
      counted_one c.in-Ok-Some.over.value _ _
          (rw c.accept.ensures.counted at c.end_connection.ensures.counted),
      c.end_connection.ensures.lent,
    ))
    c.end_connection.ensures.received)

pub returns-in-Ok-None-clause-arrives : goal.returns-in-Ok-None-clause-arrives
returns-in-Ok-None-clause-arrives g c =
    on_any c.pass_pieces.result (
      goes_on c.accept.new.self.connections
          (rw c.in-Ok-None.field-0-is at c.in-Ok-None.ensures.accepted) c.pass_pieces.ensures.lent
          c.pass_pieces.ensures.received,
      ap (λ r. r.counts) (c.pass_pieces.ensures.arrivals ∙ c.accept.ensures.counted),
      rw c.accept.ensures.kept at c.pass_pieces.ensures.lends,
    )

pub returns-in-Err-clause-arrives : goal.returns-in-Err-clause-arrives
returns-in-Err-clause-arrives g c =
    IfOk-weaker c.end_after.result _ _
    (λ _ ended. (
      is_refused c.accept.new.self.connections
          (option_map (λ b. b.value) c.in-Err.refused.over) c.in-Err.ensures.refused
          c.in-Err.ensures.others ended.0,
      rw c.accept.ensures.counted at ended.1,
      c.end_after.ensures.lent,
    ))
    c.end_after.ensures.ended

pub returns-in-Ok-Some-clause-stopped : goal.returns-in-Ok-Some-clause-stopped
returns-in-Ok-Some-clause-stopped g c =
    rw c.end_connection.ensures.same
    (with_err c.end_connection.result _ _ _
    (λ error received of_sink. (
      at_over c.in-Ok-Some.over.value of_sink
          (rw c.in-Ok-Some.field-0-is at c.in-Ok-Some.ensures.accepted) received,
      c.end_connection.ensures.lent,
    ))
    (refused_then c.end_connection.result (g.S.Sink.received c.args.sink.now)
    (g.S.Sink.received c.end_connection.new.sink) c.in-Ok-Some.over.value
    c.end_connection.ensures.received)
    c.end_connection.ensures.failed)

pub returns-in-Ok-None-clause-stopped : goal.returns-in-Ok-None-clause-stopped
returns-in-Ok-None-clause-stopped g c =
    IfErr-weaker c.pass_pieces.result _ _
    (λ error of_sink. (
      at_pieces c.accept.new.self.connections of_sink
          (rw c.in-Ok-None.field-0-is at c.in-Ok-None.ensures.accepted) c.pass_pieces.ensures.lent
          c.pass_pieces.ensures.received,
      rw c.accept.ensures.kept at c.pass_pieces.ensures.lends,
    ))
    c.pass_pieces.ensures.failed

pub returns-in-Err-clause-stopped : goal.returns-in-Err-clause-stopped
returns-in-Err-clause-stopped g c =
    IfErr-weaker c.end_after.result _ _
    (λ error stops. (
      at_refused c.accept.new.self.connections
          (option_map (λ b. b.value) c.in-Err.refused.over) c.in-Err.ensures.refused
          c.in-Err.ensures.others stops,
      c.end_after.ensures.lent,
    ))
    c.end_after.ensures.stopped

pub returns-in-Ok-Some-clause-accounted : goal.returns-in-Ok-Some-clause-accounted
returns-in-Ok-Some-clause-accounted g c =
    rw c.end_connection.ensures.same c.accept.ensures.accounted

pub returns-in-Ok-None-clause-accounted : goal.returns-in-Ok-None-clause-accounted
returns-in-Ok-None-clause-accounted g c =
    λ h. c.pass_pieces.ensures.accounted (c.accept.ensures.accounted h)

pub returns-in-Err-clause-accounted : goal.returns-in-Err-clause-accounted
returns-in-Err-clause-accounted g c =
    λ h. c.end_after.ensures.accounted (c.accept.ensures.accounted h)

use Rattle.std.proofs.Common.{ap, subst}
use Rattle.std.specs.Option.{option_map}
use Rattle.connections.specs.Segment.{five_tuple_of}
use Rattle.log_connections.specs.Log.{Logs, before_another, behind_another}
use Rattle.log_connections.proofs.PacketLemmas.{given}
use Rattle.log_connections.proofs.WeightLemmas.{some_mapped}
use Rattle.log_connections.proofs.OtherLemmas.{keeps_replaced, keeps_same, keeps_then}
use Rattle.log_connections.proofs.log.Log.take_replaced.Goals as goal

pub returns-in_err-taken-clause-refused : goal.returns-in_err-taken-clause-refused
returns-in_err-taken-clause-refused g c =
    given c.from_residual.result _ _ c.from_residual.ensures.1 (before_another c.in_err-taken.ensures.err)

pub returns-in_err-taken-clause-others : goal.returns-in_err-taken-clause-others
returns-in_err-taken-clause-others g c =
    keeps_same (five_tuple_of c.args.segment.now) c.args.self.now.connections.live
    c.take_replaced.new.self.live (ap (λ t. t.live) c.in_err-taken.ensures.err)

pub returns-in-Ok-clause-replaced : goal.returns-in-Ok-clause-replaced
returns-in-Ok-clause-replaced g c = record {
  was = option_map (λ b. b.value) c.in_ok-taken.taken;
  mid = c.take_replaced.new.self;
  replaced = c.in_ok-taken.ensures.replaced;
  begun = some_mapped (λ b. b.value) c.in_ok-taken.taken _ c.in_ok-taken.ensures.attached;
  logs = rw c.with_last-over.ensures.connections at
      (subst
      (λ b. Logs b c.args.segment.now c.with_last-over.new.self.connections
      c.analyze_segment.new.self.connections)
      c.in-Ok.ensures.belongs c.in-Ok.ensures.logged);
  ends = c.with_last-over.ensures.ended;
}

pub returns-in-Ok-clause-others : goal.returns-in-Ok-clause-others
returns-in-Ok-clause-others g c =
    keeps_then (five_tuple_of c.args.segment.now) c.args.self.now.connections.live
    c.take_replaced.new.self.live c.analyze_segment.new.self.connections.live
    (keeps_replaced c.args.segment.now c.args.self.now.connections c.take_replaced.new.self
    (option_map (λ b. b.value) c.in_ok-taken.taken) c.in_ok-taken.ensures.replaced)
    (rw c.with_last-over.ensures.connections at c.analyze_segment.ensures.others)

pub returns-in-Err-clause-refused : goal.returns-in-Err-clause-refused
returns-in-Err-clause-refused g c =
    behind_another (option_map (λ b. b.value) c.in_ok-taken.taken)
    (option_map (λ b. b.value) c.with_last-over.result) c.take_replaced.new.self
    c.in_ok-taken.ensures.replaced c.with_last-over.ensures.ended
    (rw c.with_last-over.ensures.connections at c.analyze_segment.ensures.others)

pub returns-in-Err-clause-others : goal.returns-in-Err-clause-others
returns-in-Err-clause-others g c =
    keeps_then (five_tuple_of c.args.segment.now) c.args.self.now.connections.live
    c.take_replaced.new.self.live c.analyze_segment.new.self.connections.live
    (keeps_replaced c.args.segment.now c.args.self.now.connections c.take_replaced.new.self
    (option_map (λ b. b.value) c.in_ok-taken.taken) c.in_ok-taken.ensures.replaced)
    (rw c.with_last-over.ensures.connections at c.analyze_segment.ensures.others)

pub returns-in-Ok-clause-accounted : goal.returns-in-Ok-clause-accounted
returns-in-Ok-clause-accounted g c =
    λ h. (rw c.with_last-over.ensures.connections at c.analyze_segment.ensures.accounted)
    (c.take_replaced.ensures.accounted h)

pub returns-in-Err-clause-accounted : goal.returns-in-Err-clause-accounted
returns-in-Err-clause-accounted g c =
    λ h. (rw c.with_last-over.ensures.connections at c.analyze_segment.ensures.accounted)
    (c.take_replaced.ensures.accounted h)

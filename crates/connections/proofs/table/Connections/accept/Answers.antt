use Rattle.std.proofs.Common.{sym, ap, ◌∙◌, subst}
use Rattle.connections.specs.Connection.{Accepts, LeavesOut}
use Rattle.connections.specs.Segment.{five_tuple_of}
use Rattle.connections.specs.Table.{at, others, TakesSegment}
use Rattle.connections.proofs.MemoryLemmas.{accounted_written}
use Rattle.connections.proofs.TableLemmas.{put_in, put_new, left_in, never_none, on_err, written, others-first}
use Rattle.connections.proofs.table.Connections.accept.Goals as goal

pub returns-in_err-accept-clause-others : goal.returns-in_err-accept-clause-others
returns-in_err-accept-clause-others g c =
    let e = five_tuple_of c.args.segment.now in let xs = c.self.inside.live.entries in
    rw (c.between-five_tuple.ensures, ← c.self.view_is)
    (ap (others e) (written e xs c.in-Some.connection.now c.accept.new.self
    (sym (rw c.between-five_tuple.ensures at c.in-Some.ensures.value))) ∙ others-first e (others e
    xs) c.accept.new.self)

pub returns-in_err-accept-clause-left_out : goal.returns-in_err-accept-clause-left_out
returns-in_err-accept-clause-left_out g c =
    let e = five_tuple_of c.args.segment.now in let xs = c.self.inside.live.entries in
    rw (c.between-five_tuple.ensures, ← c.self.view_is)
    (on_err c.from_residual.result
    (left_in c.args.segment.now xs c.in-Some.connection.now c.accept.new.self
    (rw c.between-five_tuple.ensures at c.in-Some.ensures.value)
    (subst (λ x. LeavesOut c.args.segment.now x c.accept.new.self) c.get_mut-in-Some.ensures.value
    c.in_err-accept.ensures.left_out)))

pub returns-in-Some-clause-put : goal.returns-in-Some-clause-put
returns-in-Some-clause-put g c =
    let e = five_tuple_of c.args.segment.now in let xs = c.self.inside.live.entries in
    rw (c.between-five_tuple.ensures, ← c.self.view_is)
    (put_in e (TakesSegment c.args.segment.now) xs c.accept.new.self c.in-Some.connection.now
    (rw c.between-five_tuple.ensures at c.in-Some.ensures.value)
    (subst (λ x. Accepts c.args.segment.now x c.accept.new.self) c.get_mut-in-Some.ensures.value
    c.in_ok-accept.ensures.taken))

pub returns-in-Some-clause-others : goal.returns-in-Some-clause-others
returns-in-Some-clause-others g c =
    let e = five_tuple_of c.args.segment.now in let xs = c.self.inside.live.entries in
    rw (c.between-five_tuple.ensures, ← c.self.view_is)
    (ap (others e) (written e xs c.in-Some.connection.now c.accept.new.self
    (sym (rw c.between-five_tuple.ensures at c.in-Some.ensures.value))) ∙ others-first e (others e
    xs) c.accept.new.self)

pub returns-clause-put : goal.returns-clause-put
returns-clause-put g c =
    let e = five_tuple_of c.args.segment.now in let xs = c.self.inside.live.entries in
    let begun = c.in_ok-begin.ensures.begun in
    rw (← c.self.view_is) (put_new e (TakesSegment c.args.segment.now) xs begun.its
    c.begin.new.self.live (rw c.between-five_tuple.ensures at c.in_default.ensures.value)
    begun.takes
    (rw c.between-five_tuple.ensures at (ap (λ t. t.live) begun.stands)))

pub returns-in_err-accept-clause-accounted : goal.returns-in_err-accept-clause-accounted
returns-in_err-accept-clause-accounted g c =
    rw (c.between-five_tuple.ensures, ← c.self.view_is)
    (accounted_written (five_tuple_of c.args.segment.now)
    (record {
      live = c.self.inside.live.entries;
      closed = c.self.inside.closed.entries;
      held =
          c.self.inside.held;
    })
    c.in-Some.connection.now c.accept.new.self
    (rw c.between-five_tuple.ensures at c.in-Some.ensures.value)
    (c.accept.ensures.weight ∙ ap (λ x. x.weight) c.get_mut-in-Some.ensures.value))

pub returns-in-Some-clause-accounted : goal.returns-in-Some-clause-accounted
returns-in-Some-clause-accounted g c =
    rw (c.between-five_tuple.ensures, ← c.self.view_is)
    (accounted_written (five_tuple_of c.args.segment.now)
    (record {
      live = c.self.inside.live.entries;
      closed = c.self.inside.closed.entries;
      held =
          c.self.inside.held;
    })
    c.in-Some.connection.now c.accept.new.self
    (rw c.between-five_tuple.ensures at c.in-Some.ensures.value)
    (c.accept.ensures.weight ∙ ap (λ x. x.weight) c.get_mut-in-Some.ensures.value))

pub returns-clause-accounted : goal.returns-clause-accounted
returns-clause-accounted g c =
    rw (← c.self.view_is) (c.begin.ensures.accounted (sym c.in_default.ensures.value))

pub returns-in-Some-clause-attached : goal.returns-in-Some-clause-attached
returns-in-Some-clause-attached g c =
    rw (c.between-five_tuple.ensures, ← c.self.view_is)
    (never_none (at (five_tuple_of c.args.segment.now) c.self.inside.live.entries)
    c.in-Some.connection.now (rw c.between-five_tuple.ensures at c.in-Some.ensures.value))

pub returns-clause-attached : goal.returns-clause-attached
returns-clause-attached g c none =
    rw c.between-five_tuple.ensures at c.in_ok-begin.ensures.attached
